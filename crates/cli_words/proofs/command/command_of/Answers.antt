use Rattle.cli_words.proofs.HelpLemmas.{help_names_none}
use Rattle.cli_words.proofs.command.command_of.Goals as goal

pub help_fault-requires : goal.help_fault-requires
help_fault-requires c = help_names_none c.in-Some.name.now

use Rattle.std.proofs.Common.{rules}
use Rattle.cli_words.specs.Arguments.{init_rules}
use Rattle.cli_words.proofs.desk_arguments.init_command.Goals as goal

pub returns : goal.returns
unfolding init_rules
returns c = search rules

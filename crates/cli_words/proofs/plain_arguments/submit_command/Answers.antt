use Rattle.std.proofs.Common.{rules}
use Rattle.cli_words.specs.Arguments.{submit_rules}
use Rattle.cli_words.proofs.plain_arguments.submit_command.Goals as goal

pub returns : goal.returns
unfolding submit_rules
returns c = search rules

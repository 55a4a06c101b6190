use Rattle.cli_words.proofs.CommandLineLemmas.{parses_as, stdio_free}
use Rattle.cli_words.specs.Arguments.{stdio_app}
use Rattle.cli_words.proofs.plain_arguments.stdio_matches.Goals as goal

pub returns : goal.returns
returns c =
    let parse = c.try_get_matches_from in
    parses_as stdio_app _ _ parse.result c.in_ok-command.ensures stdio_free parse.ensures.matches parse.ensures.kinds

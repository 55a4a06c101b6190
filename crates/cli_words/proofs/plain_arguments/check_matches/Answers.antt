use Rattle.cli_words.proofs.CommandLineLemmas.{parses_as, check_free}
use Rattle.cli_words.specs.Arguments.{check_app}
use Rattle.cli_words.proofs.plain_arguments.check_matches.Goals as goal

pub returns : goal.returns
returns c =
    let parse = c.try_get_matches_from in
    parses_as check_app _ _ parse.result c.in_ok-command.ensures check_free parse.ensures.matches parse.ensures.kinds

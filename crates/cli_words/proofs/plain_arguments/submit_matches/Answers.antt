use Rattle.cli_words.proofs.CommandLineLemmas.{parses_as, submit_free}
use Rattle.cli_words.specs.Arguments.{submit_app}
use Rattle.cli_words.proofs.plain_arguments.submit_matches.Goals as goal

pub returns : goal.returns
returns c =
    let parse = c.try_get_matches_from in
    parses_as submit_app _ _ parse.result c.in_ok-command.ensures submit_free parse.ensures.matches parse.ensures.kinds

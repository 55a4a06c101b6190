use Rattle.cli_words.proofs.CommandLineLemmas.{parses_as, init_free}
use Rattle.cli_words.specs.Arguments.{init_app}
use Rattle.cli_words.proofs.desk_arguments.init_matches.Goals as goal

pub returns : goal.returns
returns c =
    let parse = c.try_get_matches_from in
    parses_as init_app _ _ parse.result c.in_ok-command.ensures init_free parse.ensures.matches parse.ensures.kinds

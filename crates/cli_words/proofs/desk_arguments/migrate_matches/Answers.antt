use Rattle.cli_words.proofs.CommandLineLemmas.{parses_as, migrate_free}
use Rattle.cli_words.specs.Arguments.{migrate_app}
use Rattle.cli_words.proofs.desk_arguments.migrate_matches.Goals as goal

pub returns : goal.returns
returns c =
    let parse = c.try_get_matches_from in
    parses_as migrate_app _ _ parse.result c.in_ok-command.ensures migrate_free parse.ensures.matches parse.ensures.kinds

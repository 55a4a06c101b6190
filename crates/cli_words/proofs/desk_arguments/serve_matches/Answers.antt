use Rattle.cli_words.proofs.CommandLineLemmas.{parses_as, serve_free}
use Rattle.cli_words.proofs.ServeLemmas.{has_connections, has_patience, has_port}
use Rattle.cli_words.specs.Arguments.{serve_app}
use Rattle.cli_words.proofs.desk_arguments.serve_matches.Goals as goal

pub returns-clause-parses : goal.returns-clause-parses
returns-clause-parses c =
    let parse = c.try_get_matches_from in
    parses_as serve_app _ _ parse.result c.in_ok-command.ensures serve_free parse.ensures.matches parse.ensures.kinds

pub returns-clause-port : goal.returns-clause-port
returns-clause-port c = has_port _ c.try_get_matches_from.result c.in_ok-command.ensures c.try_get_matches_from.ensures.parsed

pub returns-clause-connections : goal.returns-clause-connections
returns-clause-connections c = has_connections _ c.try_get_matches_from.result c.in_ok-command.ensures c.try_get_matches_from.ensures.parsed

pub returns-clause-patience : goal.returns-clause-patience
returns-clause-patience c = has_patience _ c.try_get_matches_from.result c.in_ok-command.ensures c.try_get_matches_from.ensures.parsed

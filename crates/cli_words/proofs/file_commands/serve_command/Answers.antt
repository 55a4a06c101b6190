use Rattle.std.proofs.Common.{◌∙◌, Some, ap, map, sym}
use Rattle.clap.specs.Words.{found_of, rows_of}
use Rattle.cli_words.specs.CommandLine.{serve}
use Rattle.cli_words.proofs.CommandLineLemmas.{given, refused, server_given, server_refused, synced_by}
use Rattle.cli_words.proofs.file_commands.serve_command.Goals as goal

pub returns-in_ok-syncs-in-Ok : goal.returns-in_ok-syncs-in-Ok
returns-in_ok-syncs-in-Ok c =
    given serve (map (λ w. w.now) c.args.words.now) c.in-Ok.matches _ c.in-Ok.ensures.parses
    (server_given (rows_of (found_of c.in-Ok.matches)) c.argument_text-path.result.now _ _ _ _ c.in-Ok.ensures.port c.in-Ok.ensures.connections c.in-Ok.ensures.patience
    c.argument_text-path.ensures c.serve_options.ensures.port c.serve_options.ensures.connections c.serve_options.ensures.patience
    (synced_by c.in-Ok.matches _ _ c.get_str.ensures (c.in_ok-syncs-in-Ok.ensures ∙ ap Some (sym c.serve_options.ensures.syncs))))

pub returns-in_err-syncs-in-Ok : goal.returns-in_err-syncs-in-Ok
returns-in_err-syncs-in-Ok c =
    server_refused (map (λ w. w.now) c.args.words.now) c.in-Ok.matches _ c.from_residual.result c.in-Ok.ensures.parses
    (synced_by c.in-Ok.matches _ _ c.get_str.ensures c.in_err-syncs-in-Ok.ensures.0) c.in_err-syncs-in-Ok.ensures.1 c.from_residual.ensures.1

pub returns-in-Err : goal.returns-in-Err
returns-in-Err c = refused serve (map (λ w. w.now) c.args.words.now) c.in-Err.error c.line_fault.result c.in-Err.ensures.parses c.line_fault.ensures

use Rattle.std.proofs.Common.{map}
use Rattle.cli_words.specs.CommandLine.{stdio}
use Rattle.cli_words.proofs.CommandLineLemmas.{refused, session_given}
use Rattle.cli_words.proofs.file_commands.stdio_command.Goals as goal

pub returns-in-Ok : goal.returns-in-Ok
returns-in-Ok c =
    session_given (map (λ w. w.now) c.args.words.now) c.in-Ok.matches _ _ c.session_with.result c.in-Ok.ensures c.get_str.ensures c.get_str-in-Ok.ensures c.session_with.ensures

pub returns-in-Err : goal.returns-in-Err
returns-in-Err c = refused stdio (map (λ w. w.now) c.args.words.now) c.in-Err.error c.line_fault.result c.in-Err.ensures c.line_fault.ensures

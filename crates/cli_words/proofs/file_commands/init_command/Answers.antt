use Rattle.std.proofs.Common.{Some, ap₂, map, sym}
use Rattle.cli_words.specs.CommandLine.{Init, init}
use Rattle.cli_words.proofs.CommandLineLemmas.{given, refused}
use Rattle.cli_words.proofs.file_commands.init_command.Goals as goal

pub returns-in-Ok : goal.returns-in-Ok
returns-in-Ok c =
    given init (map (λ w. w.now) c.args.words.now) c.in-Ok.matches _ c.in-Ok.ensures
    (ap₂ (λ path texts. Some (Init path texts)) (sym c.argument_text-path.ensures) (sym c.init_options.ensures))

pub returns-in-Err : goal.returns-in-Err
returns-in-Err c = refused init (map (λ w. w.now) c.args.words.now) c.in-Err.error c.line_fault.result c.in-Err.ensures c.line_fault.ensures

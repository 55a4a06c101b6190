use Rattle.std.proofs.Common.{Some, ap₂, map, sym}
use Rattle.cli_words.specs.CommandLine.{Submit, submit}
use Rattle.cli_words.proofs.CommandLineLemmas.{given, refused}
use Rattle.cli_words.proofs.command.submit_command.Goals as goal

pub returns-in-Ok : goal.returns-in-Ok
returns-in-Ok c =
    given submit (map (λ w. w.now) c.args.words.now) c.in-Ok.matches _ c.in-Ok.ensures
    (ap₂ (λ list options. Some (Submit list options)) (sym c.argument_text-list.ensures) (sym c.submit_options.ensures))

pub returns-in-Err : goal.returns-in-Err
returns-in-Err c = refused submit (map (λ w. w.now) c.args.words.now) c.in-Err.error c.line_fault.result c.in-Err.ensures c.line_fault.ensures

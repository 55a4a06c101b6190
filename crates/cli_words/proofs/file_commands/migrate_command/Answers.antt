use Rattle.std.proofs.Common.{Some, ap, map, sym}
use Rattle.cli_words.specs.CommandLine.{Migrate, migrate}
use Rattle.cli_words.proofs.CommandLineLemmas.{given, refused}
use Rattle.cli_words.proofs.file_commands.migrate_command.Goals as goal

pub returns-in-Ok : goal.returns-in-Ok
returns-in-Ok c = given migrate (map (λ w. w.now) c.args.words.now) c.in-Ok.matches _ c.in-Ok.ensures (ap (λ path. Some (Migrate path)) (sym c.argument_text.ensures))

pub returns-in-Err : goal.returns-in-Err
returns-in-Err c = refused migrate (map (λ w. w.now) c.args.words.now) c.in-Err.error c.line_fault.result c.in-Err.ensures c.line_fault.ensures

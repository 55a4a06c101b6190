use Rattle.std.proofs.Common.{◌∙◌, sym}
use Rattle.cli_words.specs.SyncWords.{syncs_of}
use Rattle.desk_cli.proofs.SyncLemmas.{on_once, on_twice}
use Rattle.desk_cli.proofs.program.run.Goals as goal

pub returns-in-Once : goal.returns-in-Once
returns-in-Once g c = on_once _ (syncs_of c.args.command.now) (sym c.syncs.ensures ∙ c.in-Once.is) c.run_here.ensures

pub returns-in-Twice : goal.returns-in-Twice
returns-in-Twice g c = on_twice _ (syncs_of c.args.command.now) (sym c.syncs.ensures ∙ c.in-Twice.is) c.run_here-in-Twice.ensures

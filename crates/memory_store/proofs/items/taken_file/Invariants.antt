use Rattle.std.proofs.Common.{◌≡◌, drop}
use Rattle.std.specs.Prelude.{find}
use Rattle.desk_history.specs.Intake.{has_key}
use Rattle.memory_store.proofs.items.taken_file.Given as goal

abbrev pub invariant-loop-file : goal.invariant-loop-file
invariant-loop-file l = find (has_key l.key) (drop l.file-index l.taken) ≡ find (has_key l.key) l.taken

use Rattle.std.proofs.Common.{◌≡◌, ◌++◌, drop}
use Rattle.std.specs.Prelude.{filter}
use Rattle.memory_store.specs.Finds.{passes, rows_for}
use Rattle.memory_store.specs.Placed.{picked}
use Rattle.memory_store.proofs.entries.rows_passing.Given as goal

abbrev pub invariant-loop-place : goal.invariant-loop-place
invariant-loop-place l = l.rows.items ++ filter (passes l.which) (rows_for (picked l.kept (drop l.place-index l.places)) l.company) ≡ filter (passes l.which) (rows_for (picked l.kept l.places) l.company)

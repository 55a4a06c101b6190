use Rattle.std.proofs.Common.{◌≡◌, ◌++◌, drop}
use Rattle.memory_store.specs.Finds.{rows_for}
use Rattle.memory_store.proofs.reads.rows_of.Given as goal

abbrev pub invariant-loop-one : goal.invariant-loop-one
invariant-loop-one l = l.rows.items ++ rows_for (drop l.one-index l.kept) l.company ≡ rows_for l.kept l.company

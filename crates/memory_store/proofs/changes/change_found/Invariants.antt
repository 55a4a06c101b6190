use Rattle.std.proofs.Common.{◌≡◌, drop, map}
use Rattle.memory_store.specs.Kept.{row_in}
use Rattle.memory_store.proofs.Changed.{changed_all}
use Rattle.memory_store.proofs.changes.change_found.Given as goal

abbrev pub invariant-loop-place : goal.invariant-loop-place
invariant-loop-place g l = changed_all (drop l.place-index l.places) (g.C.Change.makes l.change) (map row_in l.kept) ≡ changed_all l.places (g.C.Change.makes l.change) (map row_in l.fn.kept)

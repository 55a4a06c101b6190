use Rattle.std.proofs.Common.{◌≡◌, drop, map}
use Rattle.desk_store.specs.Changes.{in_turn}
use Rattle.memory_store.specs.Kept.{row_in}
use Rattle.memory_store.specs.Placed.{FindsAll}
use Rattle.memory_store.proofs.changes.change_in_turn.Given as goal

abbrev pub invariant-loop-change : goal.invariant-loop-change
invariant-loop-change g l = record {
  made : FindsAll g.C.Change.kind (map row_in l.fn.kept) l.index → in_turn g.C.Change.makes (drop l.change-index l.changes) (map row_in l.kept) ≡ in_turn g.C.Change.makes l.changes (map row_in l.fn.kept);
  found : FindsAll g.C.Change.kind (map row_in l.fn.kept) l.index → FindsAll g.C.Change.kind (map row_in l.kept) l.index;
}

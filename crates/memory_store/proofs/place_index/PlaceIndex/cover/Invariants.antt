use Rattle.std.proofs.Common.{◌≡◌, map}
use Rattle.memory_store.specs.Kept.{row_in}
use Rattle.memory_store.specs.Placed.{IsPlaced}
use Rattle.memory_store.proofs.place_index.PlaceIndex.cover.Given as goal

abbrev pub invariant-loop-at : goal.invariant-loop-at
invariant-loop-at l = record {
  covered : l.self.indexed ≡ l.at;
  right : IsPlaced l.kind (map row_in l.kept) l.fn.self → IsPlaced l.kind (map row_in l.kept) l.self;
}

-- What indexes find among the kept submissions.
use Rattle.std.specs.Prelude.{List, map}
use Rattle.memory_store.specs.Finds.{FindWaiting, held_index}
use Rattle.memory_store.specs.Kept.{row_in}
use Rattle.memory_store.specs.Placed.{ArePlaced, FindsAll, IsPlaced}
use Rattle.memory_store.specs.declared.list_store.KeptSubmission.{KeptSubmission}
use Rattle.memory_store.specs.declared.place_index.KeyKind.{KeyKind}
use Rattle.memory_store.specs.declared.place_index.KeyKind.TheVariants as kinds
use Rattle.memory_store.specs.declared.place_index.PlaceIndex.{PlaceIndex}
use Rattle.memory_store.specs.declared.row_places.RowPlaces.{RowPlaces}

-- an index finds each of them by its key
abbrev pub FindsKept : KeyKind → List KeptSubmission → PlaceIndex → Type 0
FindsKept kind kept index = FindsAll kind (map row_in kept) index

-- it finds each by its reference
abbrev pub HasReferences : List KeptSubmission → PlaceIndex → Type 0
HasReferences = FindsKept kinds.Reference

-- an index that was right about the first of them still is
abbrev pub StaysPlaced : KeyKind → List KeptSubmission → (old new : PlaceIndex) → Type 0
StaysPlaced kind kept old new = IsPlaced kind (map row_in kept) old → IsPlaced kind (map row_in kept) new

-- and now it finds them all
abbrev pub Covers : KeyKind → List KeptSubmission → (old new : PlaceIndex) → Type 0
Covers kind kept old new = IsPlaced kind (map row_in kept) old → FindsKept kind kept new

-- the indexes of the rows, which were right about the first of them, still are
abbrev pub AllStayPlaced : List KeptSubmission → (old new : RowPlaces) → Type 0
AllStayPlaced kept old new = ArePlaced (map row_in kept) old → ArePlaced (map row_in kept) new

-- and now one of them finds all, by this key
abbrev pub CoversBy : KeyKind → List KeptSubmission → RowPlaces → PlaceIndex → Type 0
CoversBy kind kept old index = ArePlaced (map row_in kept) old → FindsKept kind kept index

-- and now they find those that no cut has decided
abbrev pub CoversWaiting : List KeptSubmission → (old new : RowPlaces) → Type 0
CoversWaiting kept old new =
    ArePlaced (map row_in kept) old → FindWaiting (map row_in kept) (held_index new) new.references

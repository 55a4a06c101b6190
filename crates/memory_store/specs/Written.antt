-- What is written into the lists, given an index that finds the submissions to change.
use Rattle.std.specs.Prelude.{◌≡◌, List, map}
use Rattle.desk_book.specs.Steps.{CutWrite, IntakeWrite}
use Rattle.desk_store.specs.Changes.{cut_in, in_turn, intake_in, lapse_in, send_in}
use Rattle.desk_store.specs.Rows.{CompanyRow}
use Rattle.memory_store.specs.Covers.{FindsKept, HasReferences}
use Rattle.memory_store.specs.Kept.{row_in, rows_in}
use Rattle.memory_store.specs.declared.list_store.KeptSubmission.{KeptSubmission}
use Rattle.memory_store.specs.declared.list_store.ListStore.{ListStore}
use Rattle.memory_store.specs.declared.place_index.KeyKind.{KeyKind}
use Rattle.memory_store.specs.declared.place_index.KeyKind.TheVariants as kinds
use Rattle.memory_store.specs.declared.place_index.PlaceIndex.{PlaceIndex}

-- this change is made to all rows, if the index finds them
abbrev pub ChangesFound : KeyKind → PlaceIndex → (List CompanyRow → List CompanyRow)
    → (old new : List KeptSubmission) → Type 0
ChangesFound kind index change old new = FindsKept kind old index → map row_in new ≡ change (map row_in old)

-- an index that found all still does
abbrev pub StillFinds : KeyKind → PlaceIndex → (old new : List KeptSubmission) → Type 0
StillFinds kind index old new = FindsKept kind old index → FindsKept kind new index

-- the rows after a cut has decided: it sends some and lets some lapse
abbrev pub decided_in : CutWrite → List CompanyRow → List CompanyRow
decided_in x rows = in_turn lapse_in x.lapsed (in_turn send_in x.sent rows)

-- a cut is written, if the index of order numbers finds all submissions
abbrev pub WritesCut : CutWrite → (old new : ListStore) → Type 0
WritesCut x old new =
    FindsKept kinds.Order old.submissions.items old.places.orders → rows_in new ≡ cut_in x (rows_in old)

-- an incoming file is written, if the index of references finds all submissions
abbrev pub WritesIntake : IntakeWrite → (old new : ListStore) → Type 0
WritesIntake x old new =
    HasReferences old.submissions.items old.places.references → rows_in new ≡ intake_in x (rows_in old)

-- What reads of undecided submissions find, among the kept ones.
use Rattle.std.specs.Prelude.{◌≡◌, ℕ, List, map, filter, Option, Vec}
use Rattle.std.specs.List.{flat_map}
use Rattle.std.specs.declared.alloc.Global.{Global}
use Rattle.desk_rules.specs.declared.bodies.company.Company.{Company}
use Rattle.desk_rules.specs.declared.bodies.submission.Retry.{Retry}
use Rattle.desk_book.specs.declared.held_submission.HeldSubmission.{HeldSubmission}
use Rattle.desk_book.specs.Reads.{held_submission}
use Rattle.desk_book.specs.Standing.{is_held, original_of_row}
use Rattle.memory_store.specs.Covers.{HasReferences}
use Rattle.memory_store.specs.Finds.{Adds, FindWaiting, passing_at, rows_among, rows_for, waiting_for}
use Rattle.memory_store.specs.Kept.{row_in}
use Rattle.memory_store.specs.declared.entries.RowFilter.TheVariants as filters
use Rattle.memory_store.specs.declared.list_store.KeptSubmission.{KeptSubmission}
use Rattle.memory_store.specs.declared.place_index.PlaceIndex.{PlaceIndex}

-- when the original of a retry settled, if there is one and it did
abbrev pub original_among : List KeptSubmission → (company : List ℕ) → Option Retry → Option ℕ
original_among kept c retry = original_of_row (rows_for kept c) retry

-- a company's held submissions
abbrev pub waiting_in : List KeptSubmission → Company → List HeldSubmission
waiting_in kept k = waiting_for k (rows_for kept k.id)

-- those of companies, one after another
abbrev pub waiting_in_all : List KeptSubmission → List Company → List HeldSubmission
waiting_in_all kept ks = flat_map (λ k. waiting_for k (rows_for kept k.id)) ks

-- ---- where the indexes find what is looked for

-- what waits was found
abbrev pub FindsWaiting : List KeptSubmission → (index references : PlaceIndex) → List HeldSubmission
    → Vec HeldSubmission Global → Type 0
FindsWaiting kept index references waiting found =
    FindWaiting (map row_in kept) index references → found.items ≡ waiting

-- this is made of a company's submission
abbrev pub IsHeldOf : List KeptSubmission → (references : PlaceIndex) → Company → KeptSubmission → HeldSubmission
    → Type 0
IsHeldOf kept references k one held =
    HasReferences kept references → held ≡ held_submission k (rows_for kept k.id) (row_in one).row

-- the submission at a place is added, if it is the company's and held
abbrev pub AddsHeldAt : List KeptSubmission → (references : PlaceIndex) → (place : ℕ) → Company
    → (old new : Vec HeldSubmission Global) → Type 0
AddsHeldAt kept references place k old new =
    HasReferences kept references
    → Adds (map (held_submission k (rows_for kept k.id)) (passing_at kept place k.id filters.Held)) old new

-- a company's held submissions among those at these places are added
abbrev pub AddsHeld : List KeptSubmission → (references : PlaceIndex) → (places : List ℕ) → Company
    → (old new : Vec HeldSubmission Global) → Type 0
AddsHeld kept references places k old new =
    HasReferences kept references
    → Adds (map (held_submission k (rows_for kept k.id)) (filter is_held (rows_among kept places k.id))) old new

-- The points at which a reader may run out of memory.
use Rattle.std.specs.Prelude.{◌≡◌, ℕ, ◌<◌, ◌≤◌, List, ◌++◌, length, take, Option, None, Result, IfErr}
use Rattle.ach_files.specs.declared.fault.Fault.{Fault}
use Rattle.ach_files.specs.declared.fault.FileFault.{FileFault}
use Rattle.ach_files.specs.declared.fault.FileFault.TheVariants as faults
use Rattle.ach_files.specs.SoFar.{file_so_far, facts_so_far}
use Rattle.ach_files.specs.Layout.{layout}
use Rattle.ach_files.specs.FirstFault.{early_fault, IsNoMemory}

-- how many items these records have so far
abbrev pub items_in : List (List ℕ) → ℕ
items_in records = length (facts_so_far (file_so_far records))

-- how many items these bytes have so far
abbrev pub item_count : List ℕ → ℕ
item_count bytes = items_in (layout bytes).records

-- the first bytes of the piece have no fault, and more items than there was room for
pub record RunsOut (room : ℕ) (seen piece : List ℕ) : Type 0 where
  pub count : ℕ
  pub within : count ≤ length piece
  pub fine : early_fault (seen ++ take count piece) ≡ None
  pub more : room < item_count (seen ++ take count piece)

-- memory runs out only where this holds
abbrev pub GivesUpOnlyIf : {A : Type 0} → Result A Fault → Type 0 → Type 0
GivesUpOnlyIf result P = IfErr result (λ f. IsNoMemory f → P)

-- memory runs out only where nothing is wrong, and these records have more items than the room
abbrev pub GivesUpAfter : Result (Unit {0}) Fault → Option Fault → (room : ℕ) → List (List ℕ) → Type 0
GivesUpAfter result fault room records = GivesUpOnlyIf result ((fault ≡ None) × (room < items_in records))

-- the same of a fault without its place
abbrev pub GivesUpKindAfter : Result (Unit {0}) FileFault → Option FileFault → (room : ℕ) → List (List ℕ) → Type 0
GivesUpKindAfter result fault room records =
    IfErr result (λ f. f ≡ faults.NoMemory → (fault ≡ None) × (room < items_in records))

-- memory runs out only where the items need more room, after all bytes that were taken, before any fault
abbrev pub NeedsRoom : {A : Type 0} → (Has : List ℕ → Type 0) → (room : ℕ) → List ℕ → Result A Fault → Type 0
NeedsRoom Has room piece result = (seen : List ℕ) → Has seen → GivesUpOnlyIf result (RunsOut room seen piece)

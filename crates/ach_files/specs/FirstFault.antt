-- The fault of bytes: what is wrong at the first place where something is.
use Rattle.ach_fields.specs.Characters.{is_printable}
use Rattle.std.specs.Prelude.{◌≡◌, ◌⊎◌, ℕ, ◌+◌, Bool, false, not, List, [], ◌∷◌, ◌++◌, length, Option, Some, None, Result, Err, MatchResult, if◌then◌else◌, ◌==◌, nat_le}
use Rattle.ach_files.specs.declared.fault.FileFault.{FileFault}
use Rattle.ach_files.specs.declared.fault.FileFault.TheVariants as faults
use Rattle.ach_files.specs.declared.fault.Fault.{Fault}
use Rattle.ach_files.specs.SoFar.{FileSoFar, Closed, file_so_far}
use Rattle.ach_files.specs.RecordFault.{record_fault}
use Rattle.ach_files.specs.Limits.{most_bytes}
use Rattle.ach_files.specs.Layout.{Place, InRecord, Move, Put, Go, Stray, is_end, move_at, Layout, layout}

-- the record that has the byte
abbrev pub record_of : List (List ℕ) → Move → ℕ
record_of records (Put _) = length records + 1
record_of records (Go _) = length records
record_of records Stray = length records

abbrev pub fault_at : ℕ → FileFault → Fault
fault_at n kind = record { kind = kind; at = n }

abbrev pub whole_fault : List (List ℕ) → List ℕ → Option FileFault
whole_fault records text = if length text == 94 then record_fault records text else None

-- a byte of a record
abbrev pub byte_fault : List (List ℕ) → List ℕ → ℕ → Option FileFault
byte_fault records bytes b =
    if is_end b then Some faults.BadLength
    else if not (is_printable b) then Some faults.BadByte
    else whole_fault records (bytes ++ b ∷ [])

abbrev pub move_fault : List (List ℕ) → ℕ → Move → Option FileFault
move_fault records b (Put bytes) = byte_fault records bytes b
move_fault records b (Go _) = None
move_fault records b Stray = Some faults.BadLength

abbrev pub map_fault : ℕ → Option FileFault → Option Fault
map_fault n None = None
map_fault n (Some f) = Some (fault_at n f)

-- the fault at the byte b, after n bytes with this layout
unfoldable pub place_fault : ℕ → Layout → ℕ → Option Fault
place_fault n l b =
    map_fault (record_of l.records (move_at l.place b))
    (if nat_le most_bytes n then Some faults.TooLarge else move_fault l.records b (move_at l.place b))

-- what is wrong at the end of the input
abbrev pub order_fault_at_end : ℕ → FileSoFar → Option Fault
order_fault_at_end n (Closed _) = None
order_fault_at_end n _ = Some (fault_at n faults.BadOrder)

-- inside a record
abbrev pub is_inside : Place → Bool
is_inside (InRecord bytes) = not (length bytes == 0)
is_inside _ = false

abbrev pub place_end_fault : List (List ℕ) → Place → Option Fault
place_end_fault records place =
    if is_inside place then Some (fault_at (length records + 1) faults.BadLength)
    else order_fault_at_end (length records + 1) (file_so_far records)

unfoldable pub end_fault : Layout → Option Fault
end_fault l = place_end_fault l.records l.place

abbrev pub or_else : Option Fault → Option Fault → Option Fault
or_else (Some f) _ = Some f
or_else None o = o

-- the fault at the first bad place among the bytes that come after those seen
unfoldable pub first_fault : List ℕ → List ℕ → Option Fault
first_fault seen [] = None
first_fault seen (b ∷ bytes) = or_else (place_fault (length seen) (layout seen) b) (first_fault (seen ++ b ∷ []) bytes)

-- the fault at the first bad place that is a byte
abbrev pub early_fault : List ℕ → Option Fault
early_fault bytes = first_fault [] bytes

-- a byte is bad
abbrev pub HasEarlyFault : List ℕ → Type 0
HasEarlyFault bytes = (f : Fault) × (early_fault bytes ≡ Some f)

-- the fault at the first bad place: a byte, or the end
abbrev pub fault : List ℕ → Option Fault
fault bytes = or_else (early_fault bytes) (end_fault (layout bytes))

-- out of memory, which no record is at fault for
abbrev pub IsNoMemory : Fault → Type 0
IsNoMemory f = f ≡ fault_at 0 faults.NoMemory

-- out of memory, or this fault
abbrev pub Tells : Fault → Option Fault → Type 0
Tells f fault = IsNoMemory f ⊎ (fault ≡ Some f)

abbrev pub TellsKind : FileFault → Option FileFault → Type 0
TellsKind f fault = (f ≡ faults.NoMemory) ⊎ (fault ≡ Some f)

-- there is no fault and this holds, or the fault is returned
abbrev pub HoldsOrTells : Result (Unit {0}) Fault → Option Fault → Type 0 → Type 0
HoldsOrTells result fault P = MatchResult result (λ _. (fault ≡ None) × P) (λ f. Tells f fault)

-- the same of a fault without its place
abbrev pub HoldsOrTellsKind : Result (Unit {0}) FileFault → Option FileFault → Type 0 → Type 0
HoldsOrTellsKind result fault P = MatchResult result (λ _. (fault ≡ None) × P) (λ f. TellsKind f fault)

-- each call answers so after a fault, and after the end
abbrev pub AnswersFailed : {A : Type 0} → Result A Fault → Type 0
AnswersFailed result = result ≡ Err (fault_at 0 faults.Failed)

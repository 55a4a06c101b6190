-- A company's part of the history. The newest event comes first, so that everything before an event is the rest of the
-- list.
use Rattle.std.specs.Prelude.{ℕ, Bool, List, [], ◌∷◌, Option, Some, None, is_some, option_map, unwrap_or}
use Rattle.desk_rules.specs.declared.bodies.company.Limits.{Limits}
use Rattle.desk_history.specs.Request.{Request}

-- No event has a trace, a batch, a file or anything of another company.
pub data Event : Type 0 where
  -- the operator set the desk day
  DaySet : (day : ℕ) → Event
  -- the operator set the holiday list
  HolidaysSet : (days : List ℕ) → Event
  -- the company was registered, with the digest of its key
  Registered : (name digest : List ℕ) (limits : Limits) → Event
  -- its limits were set
  Limited : (limits : Limits) → Event
  -- the company submitted something or asked for a retry, accepted or not
  Asked : Request → Event
  -- the operator cut files
  CutMade : Event
  -- an entry of the company is returned; it is named by its submission's reference and its number there
  Returned : (reference : List ℕ) (index code : ℕ) (information : List ℕ) → Event
  -- a change was notified for an entry of the company
  Changed : (reference : List ℕ) (index : ℕ) (code text : List ℕ) → Event

-- the desk day: the last that was set
abbrev pub day : List Event → Option ℕ
day [] = None
day (DaySet d ∷ P) = Some d
day (_ ∷ P) = day P

-- the holidays: the list that was set last, and none before the first
abbrev pub holidays : List Event → List ℕ
holidays [] = []
holidays (HolidaysSet days ∷ P) = days
holidays (_ ∷ P) = holidays P

-- the limits that were set last; none before the company is registered
abbrev pub limits : List Event → Option Limits
limits [] = None
limits (Registered name digest l ∷ P) = Some l
limits (Limited l ∷ P) = Some l
limits (_ ∷ P) = limits P

-- the desk day, 0 where none was set
abbrev pub today : List Event → ℕ
today P = unwrap_or (day P) 0

abbrev pub is_registered : List Event → Bool
is_registered P = is_some (limits P)

-- a company's registration, without its limits
pub record Registration : Type 0 where
  pub name : List ℕ
  pub digest : List ℕ

-- its registration; none before
abbrev pub registration : List Event → Option Registration
registration [] = None
registration (Registered name digest limits ∷ P) = Some (record { name = name; digest = digest })
registration (_ ∷ P) = registration P

-- the digest of the key with which it was registered
abbrev pub digest : List Event → Option (List ℕ)
digest P = option_map (λ r. r.digest) (registration P)

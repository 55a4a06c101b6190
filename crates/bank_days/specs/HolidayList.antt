-- Holiday lists, row by row.
use Rattle.std.specs.Prelude.{◌≡◌, ◌⊎◌, ◌≤◌, ℕ, ◌+◌, ◌-◌, Bool, true, List, [], ◌∷◌, length, map, slice_get, nat_lt, if◌then◌else◌, Option, Some, None, Result, Ok, Err, Vec, vec_capacity, vec_len}
use Rattle.std.specs.List.{filter_map}
use Rattle.std.specs.declared.alloc.Global.{Global}
use Rattle.std.specs.Option.{option_or}
use Rattle.csv.specs.Reading.{default_config, records, strip_bom}
use Rattle.bank_days.specs.declared.calendar_fault.CalendarFault.{CalendarFault}
use Rattle.bank_days.specs.declared.calendar_fault.CalendarFault.TheVariants.{BadRow, NotAscending, TooMany, NoMemory}
use Rattle.bank_days.specs.Day.{day_of}
use Rattle.bank_days.specs.Calendar.{most_holidays}

-- the day of a row that has one field, the text of a day
abbrev pub row_day : List (List ℕ) → Option ℕ
row_day (field ∷ []) = day_of field
row_day _ = None

-- the rows of a text of CSV without a header, each as its day, if it is one
unfoldable pub rows_in : List ℕ → List (Option ℕ)
rows_in text = map row_day (records default_config (strip_bom text))

-- the last of the days, if there is one
abbrev pub last_of : List ℕ → Option ℕ
last_of days = slice_get days (length days - 1)

-- is a day after that of the row before, if there is one?
abbrev pub is_after : Option ℕ → (day : ℕ) → Bool
is_after None d = true
is_after (Some before) d = nat_lt before d

-- the fault of row n, after the row before it
abbrev pub row_fault : ℕ → (before : Option ℕ) → Option ℕ → Option CalendarFault
row_fault n before None = Some (BadRow n)
row_fault n before (Some d) =
    if is_after before d then (if nat_lt most_holidays n then Some TooMany else None) else Some (NotAscending n)

-- the fault of a row after these days
abbrev pub next_row_fault : (days : List ℕ) → Option ℕ → Option CalendarFault
next_row_fault days row = row_fault (length days + 1) (last_of days) row

-- memory is refused for the row, or this is its fault
abbrev pub IsRowFault : (days : List ℕ) → Option ℕ → CalendarFault → Type 0
IsRowFault days row fault = (fault ≡ NoMemory) ⊎ (next_row_fault days row ≡ Some fault)

-- memory is refused only for a valid row, and only if the list is full
abbrev pub IsRefusedOnlyFull : Vec ℕ Global → Option ℕ → CalendarFault → Type 0
IsRefusedOnlyFull days row fault =
    fault ≡ NoMemory → (next_row_fault days.items row ≡ None) × (vec_capacity days ≤ vec_len days)

-- the fault of the first row that has one, of the rows from number n on
unfoldable pub first_fault : ℕ → (before : Option ℕ) → List (Option ℕ) → Option CalendarFault
first_fault n before [] = None
first_fault n before (row ∷ rows) = option_or (row_fault n before row) (first_fault (n + 1) row rows)

-- a fault, or these days if there is none
abbrev pub unless : Option CalendarFault → List ℕ → Result (List ℕ) CalendarFault
unless None days = Ok days
unless (Some fault) days = Err fault

-- the holiday list that these rows make, or why they make none
unfoldable pub holidays_of_rows : List (Option ℕ) → Result (List ℕ) CalendarFault
holidays_of_rows rows = unless (first_fault 1 None rows) (filter_map (λ row. row) rows)

-- the holiday list that these days make, a row each
abbrev pub holidays_of_days : List ℕ → Result (List ℕ) CalendarFault
holidays_of_days days = holidays_of_rows (map (λ d. Some d) days)

-- the holiday list that a text spells
unfoldable pub holidays_in : List ℕ → Result (List ℕ) CalendarFault
holidays_in text = holidays_of_rows (rows_in text)

-- the answer is this one, but where memory is refused
abbrev pub Gives : Result (List ℕ) CalendarFault → Result (List ℕ) CalendarFault → Type 0
Gives wanted (Ok days) = wanted ≡ Ok days
Gives wanted (Err fault) = (fault ≡ NoMemory) ⊎ (wanted ≡ Err fault)

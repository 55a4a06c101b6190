-- The entries of a list in CSV, or the first fault of its rows.
use Rattle.std.specs.Prelude.{◌≡◌, ℕ, List, [], ◌∷◌, Option, option_map, if◌then◌else◌, Result, Ok, Err}
use Rattle.std.specs.List.{enumerate_from, filter_map}
use Rattle.std.specs.Result.{result_ok, result_err}
use Rattle.csv.specs.Reading.{default_config, records, strip_bom}
use Rattle.cli_submit.specs.Rows.{EntryTexts, is_header, row_entry}
use Rattle.cli_submit.specs.declared.fault.InputFault.{InputFault}
use Rattle.cli_submit.specs.declared.fault.InputFault.TheVariants.{BadHeader, Row}
use Rattle.cli_submit.specs.declared.fault.SubmitFault.{SubmitFault}
use Rattle.cli_submit.specs.declared.fault.SubmitFault.TheVariants.{Input, NoMemory}

-- the rows of a text of CSV
unfoldable pub rows_in : (text : List ℕ) → List (List (List ℕ))
rows_in text = records default_config (strip_bom text)

-- the fault of the row with a number, if it has one
abbrev pub fault_of : (row : ℕ × List (List ℕ)) → Option InputFault
fault_of row = option_map (Row row.0) (result_err (row_entry row.1))

-- the faults of rows with their numbers, which begin at this one
abbrev pub faults_from : (first : ℕ) → (rows : List (List (List ℕ))) → List InputFault
faults_from first rows = filter_map fault_of (enumerate_from first rows)

-- the rows that are entries, as those
abbrev pub entries_in : (rows : List (List (List ℕ))) → List EntryTexts
entries_in rows = filter_map (λ row. result_ok (row_entry row)) rows

-- the entries, or the first of the faults
abbrev pub unless_fault : (faults : List InputFault) → List EntryTexts → Result (List EntryTexts) InputFault
unless_fault [] entries = Ok entries
unless_fault (f ∷ fs) entries = Err f

-- the entries that the rows after a header are, or the fault of the first row that has one: they are counted from 1
unfoldable pub entries_of_rows : (rows : List (List (List ℕ))) → Result (List EntryTexts) InputFault
entries_of_rows rows = unless_fault (faults_from 1 rows) (entries_in rows)

-- the entries of a list with exactly these rows
abbrev pub entries_under_header : (rows : List (List (List ℕ))) → Result (List EntryTexts) InputFault
entries_under_header [] = Err BadHeader
entries_under_header (header ∷ rows) = if is_header header then entries_of_rows rows else Err BadHeader

-- the entries of a list
abbrev pub entries_of_list : (list : List ℕ) → Result (List EntryTexts) InputFault
entries_of_list list = entries_under_header (rows_in list)

-- a call gave the wanted value, in the sense of `Is`, or its fault, or it ran out of memory
abbrev pub IsUnlessNoMemory : {A B : Type 0} → (Is : A → B → Type 0) → (wanted : Result B InputFault) → Result A SubmitFault → Type 0
IsUnlessNoMemory {A} {B} Is wanted (Ok x) = (y : B) × (wanted ≡ Ok y) × Is x y
IsUnlessNoMemory Is wanted (Err (Input f)) = wanted ≡ Err f
IsUnlessNoMemory Is wanted (Err NoMemory) = Unit {0}

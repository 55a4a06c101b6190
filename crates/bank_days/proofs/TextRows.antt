-- Holiday lists that are read from a text, record by record.
use Rattle.std.proofs.Common.{◌≡◌, ℕ, ◌+◌, ◌≤◌, arith, refl, ap, ◌∙◌, List, [], ◌∷◌, ◌++◌, length, map, All, Option, Some, None, IfSome, Ok, Err, append_assoc}
use Rattle.std.proofs.lemmas.List.{map-append}
use Rattle.std.proofs.lemmas.List.Elements.{All-push}
use Rattle.csv.specs.Machine.{next_record}
use Rattle.csv.specs.Reading.{Reached, default_config, records, strip_bom}
use Rattle.csv.specs.Records.{field_at}
use Rattle.csv.specs.declared.parser.State.{State}
use Rattle.csv.specs.declared.parser.State.TheVariants as st
use Rattle.bank_days.specs.Day.{day_of}
use Rattle.bank_days.specs.declared.calendar_fault.CalendarFault.{CalendarFault}
use Rattle.bank_days.specs.OnLiterals.{bank_days_on_literals}
use Rattle.bank_days.specs.HolidayList.{row_day, rows_in, last_of, row_fault, holidays_of_rows, holidays_in}
use Rattle.bank_days.proofs.CsvRecords.{records_go, records_end}
use Rattle.bank_days.proofs.HolidayRows.{Taken, taken_more, fault_row, all_taken}

-- a row of one field, and a row that has another number of fields
pub one_field : (fields : List (List ℕ)) (field : List ℕ) → length fields ≡ 1 → Some field ≡ field_at fields 0 → day_of field ≡ row_day fields
unfolding field_at
one_field [] field one at = absurd (omega arith)
one_field (f ∷ []) field one at = let same : field ≡ f = cc in ap day_of same
one_field (f ∷ g ∷ rest) field one at = absurd (omega arith)

pub has_field : (fields : List (List ℕ)) → length fields ≡ 1 → None ≡ field_at fields 0 → ⊥
unfolding field_at
has_field [] one at = omega arith
has_field (f ∷ rest) one at = cc

rows_are : (text : List ℕ) (rows : List (List (List ℕ))) → records default_config (strip_bom text) ≡ rows → holidays_in text ≡ holidays_of_rows (map row_day rows)
unfolding holidays_in rows_in
rows_are text rows e = ap (λ (r : List (List (List ℕ))). holidays_of_rows (map row_day r)) e

-- one more record
pub record_more : (done : List (List (List ℕ))) (row : List (List ℕ)) (held after : List ℕ) → Taken (map row_day done) held → All (λ h. h ≤ 47_481) held → IfSome (row_day row) (λ d. d ≤ 47_481)
    → IfSome (row_day row) (λ d. after ≡ held ++ d ∷ []) → row_fault (length held + 1) (last_of held) (row_day row) ≡ None → Taken (map row_day (done ++ row ∷ [])) after × All (λ h. h ≤ 47_481) after
record_more done row held after t within small pushed fits = by_day (row_day row) refl small pushed fits where
  by_day : (o : Option ℕ) → row_day row ≡ o → IfSome o (λ d. d ≤ 47_481) → IfSome o (λ d. after ≡ held ++ d ∷ []) → row_fault (length held + 1) (last_of held) o ≡ None
      → Taken (map row_day (done ++ row ∷ [])) after × All (λ h. h ≤ 47_481) after
  by_day None is small pushed fits = cc
  by_day (Some d) is small pushed fits =
      let rows : map row_day (done ++ row ∷ []) ≡ map row_day done ++ Some d ∷ [] =
      map-append row_day done (row ∷ []) ∙ ap (λ (o : Option ℕ). map row_day done ++ o ∷ []) is in
      rw (rows, pushed) (taken_more (map row_day done) held d t fits, All-push (λ h. h ≤ 47_481) held d within small)

-- a record that has a fault
pub record_fault : (text : List ℕ) (done : List (List (List ℕ))) (row : List (List ℕ)) (s : State) (rest held : List ℕ) (fault : CalendarFault)
    → Reached default_config st.StartRecord (strip_bom text) (done ++ row ∷ []) s rest → Taken (map row_day done) held → row_fault (length held + 1) (last_of held) (row_day row) ≡ Some fault → holidays_in text ≡ Err fault
record_fault text done row s rest held fault reached t e =
    let go = records_go (strip_bom text) (done ++ row ∷ []) s rest reached in
    let rows : map row_day (done ++ row ∷ [] ++ go.0) ≡ map row_day done ++ row_day row ∷ map row_day go.0 =
    ap (map row_day) (append_assoc done (row ∷ []) go.0) ∙ map-append row_day done (row ∷ go.0) in
    rows_are text (done ++ row ∷ [] ++ go.0) go.1 ∙ ap holidays_of_rows rows ∙ fault_row (map row_day done) (map row_day go.0) held (row_day row) fault t e

-- no further record
pub records_taken : (text : List ℕ) (done : List (List (List ℕ))) (s : State) (rest held : List ℕ) → Reached default_config st.StartRecord (strip_bom text) done s rest → next_record default_config s [] [] rest ≡ None
    → Taken (map row_day done) held → holidays_in text ≡ Ok held
records_taken text done s rest held reached end t = rows_are text done (records_end (strip_bom text) done s rest reached end) ∙ all_taken (map row_day done) held t

-- an empty text has no record
pub no_rows : holidays_in [] ≡ Ok []
unfolding bank_days_on_literals
no_rows = refl

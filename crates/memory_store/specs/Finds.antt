-- What reads of the lists in memory find.
use Rattle.std.specs.Prelude.{◌≡◌, ℕ, Bool, ◌&&◌, ◌==◌, nat_lt, if◌then◌else◌, List, [], ◌∷◌, ◌++◌, map, filter, find, insert, bytes_eq, max, Option, Some, None, is_none, option_map, ℤ, ◌+ℤ◌, Vec}
use Rattle.std.specs.Borrow.{Bor}
use Rattle.std.specs.List.Sorted.{IsStrictlyIncreasing}
use Rattle.std.specs.declared.alloc.Global.{Global}
use Rattle.desk_rules.specs.declared.bodies.company.Company.{Company}
use Rattle.desk_book.specs.declared.flat_rows.ChangedRow.{ChangedRow}
use Rattle.desk_book.specs.declared.flat_rows.FileRow.{FileRow}
use Rattle.desk_book.specs.declared.flat_rows.ReturnedRow.{ReturnedRow}
use Rattle.desk_book.specs.declared.row.Row.{Row}
use Rattle.desk_history.specs.History.{with_company}
use Rattle.desk_history.specs.declared.reports.ChangeRow.{ChangeRow}
use Rattle.desk_history.specs.declared.reports.ReturnRow.{ReturnRow}
use Rattle.desk_history.specs.declared.sent_entry.SentEntry.{SentEntry}
use Rattle.desk_book.specs.Standing.{is_held}
use Rattle.desk_book.specs.Steps.{is_file}
use Rattle.memory_store.specs.declared.list_store.KeptSubmission.{KeptSubmission}
use Rattle.desk_book.specs.declared.held_submission.HeldSubmission.{HeldSubmission}
use Rattle.memory_store.specs.Kept.{row_in}
use Rattle.desk_book.specs.Reads.{held_submission}
use Rattle.desk_history.specs.Retries.{is_same_entry}
use Rattle.desk_store.specs.Rows.{CompanyRow}
use Rattle.memory_store.specs.Open.{is_found_open}
use Rattle.memory_store.specs.Placed.{FindsAll, key_in, picked, whole}
use Rattle.memory_store.specs.declared.entries.RowFilter.{RowFilter}
use Rattle.memory_store.specs.declared.entries.RowFilter.TheVariants as filters
use Rattle.memory_store.specs.declared.place_index.KeyKind.{KeyKind}
use Rattle.memory_store.specs.declared.place_index.KeyKind.TheVariants as kinds
use Rattle.memory_store.specs.declared.place_index.PlaceIndex.{PlaceIndex}
use Rattle.memory_store.specs.declared.row_places.RowPlaces.{RowPlaces}

-- a list has more at its end
abbrev pub Adds : {A : Type 0} → (more : List A) → (old new : Vec A Global) → Type 0
Adds more old new = new.items ≡ old.items ++ more

-- a company's rows
abbrev pub rows_for : List KeptSubmission → List ℕ → List Row
rows_for kept c = map (λ x. x.row) (filter (λ x. bytes_eq x.company c) (map row_in kept))

-- the rows at these places
abbrev pub rows_among : List KeptSubmission → (places : List ℕ) → (company : List ℕ) → List Row
rows_among kept places c = rows_for (picked kept places) c

-- whether it is the company's submission with the reference
abbrev pub is_submission_of : KeptSubmission → (company : List ℕ) → (reference : List ℕ) → Bool
is_submission_of k c reference = bytes_eq k.company c && bytes_eq k.content.reference reference

-- the row that was found, if one was
abbrev pub found_row : Option (Bor KeptSubmission) → Option Row
found_row found = option_map (λ k. (row_in k.now).row) found

-- whether a row passes a filter
abbrev pub passes : RowFilter → Row → Bool
passes (filters.OpenSince since) row = is_found_open since row
passes (filters.RetriesOf of index) row = is_same_entry of index row.retry
passes filters.Held row = is_held row

-- a company's rows that pass, among those at these places
abbrev pub passing_among : List KeptSubmission → (places : List ℕ) → (company : List ℕ) → RowFilter → List Row
passing_among kept places c f = filter (passes f) (rows_among kept places c)

-- the row at a place, if it is the company's and passes
abbrev pub passing_at : List KeptSubmission → (place : ℕ) → (company : List ℕ) → RowFilter → List Row
passing_at kept place c f = passing_among kept (place ∷ []) c f

-- a company's held submissions
abbrev pub waiting_for : Company → List Row → List HeldSubmission
waiting_for k rows = map (held_submission k rows) (filter is_held rows)

-- the rows that no cut has decided are found: one index has each undecided row under the key of its company, and
-- possibly others; another has the submission with each reference
pub record FindWaiting (rows : List CompanyRow) (index references : PlaceIndex) : Type 0 where
  pub kind : KeyKind
  pub has : (x : CompanyRow) → x.row.settled ≡ None → key_in kind x ≡ Some (whole x.company)
  pub held : FindsAll kind rows index
  pub originals : FindsAll kinds.Reference rows references

-- the index that finds them: of the rows that may be open since a day, once there is one, else of all rows
abbrev pub held_index : RowPlaces → PlaceIndex
held_index x = if is_none x.since then x.companies else x.recent

-- the returns of a company's entries
abbrev pub returns_among : List ReturnedRow → (company : List ℕ) → List ReturnRow
returns_among returned c = map (λ x. x.row) (filter (λ x. bytes_eq x.company c) returned)

-- their changes
abbrev pub changes_among : List ChangedRow → (company : List ℕ) → List ChangeRow
changes_among changed c = map (λ x. x.row) (filter (λ x. bytes_eq x.company c) changed)

-- the text of a day's file with a modifier
abbrev pub text_among : List FileRow → (day : ℕ) → (modifier : ℕ) → Option (List ℕ)
text_among files day modifier = option_map (λ f. f.text) (find (is_file day modifier) files)

-- the place at which a company with this identification is put
abbrev pub IsPlaceOf : (id : List ℕ) → List Company → (place : ℕ) → Type 0
IsPlaceOf id ks place = (k : Company) → k.id ≡ id → insert ks place k ≡ with_company k ks

-- the later of two days, if there are any
abbrev pub later_of : Option ℕ → (day : Option ℕ) → Option ℕ
later_of None d = d
later_of (Some d) None = Some d
later_of (Some d) (Some e) = Some (max d e)

-- the settlements of sequences, with that of one more entry
abbrev pub with_settlement : SentEntry → (ℕ → Option ℕ) → ℕ → Option ℕ
with_settlement e f s = if e.sequence == s then Some e.settled else f s

-- sums by day with one more amount on a day
abbrev pub with_sum : (day : ℕ) → (cents : ℤ) → List (ℕ × ℤ) → List (ℕ × ℤ)
with_sum day cents [] = (day, cents) ∷ []
with_sum day cents (row ∷ rows) =
    if day == row.0 then (row.0, row.1 +ℤ cents) ∷ rows
    else (if nat_lt day row.0 then (day, cents) ∷ row ∷ rows else row ∷ with_sum day cents rows)

-- an amount is added to the sum of its day; the sums are listed by ascending day
abbrev pub AddsToDay : (day : ℕ) → (cents : ℤ) → (old new : List (ℕ × ℤ)) → Type 0
AddsToDay day cents old new = IsStrictlyIncreasing (map (λ row. row.0) old) → new ≡ with_sum day cents old

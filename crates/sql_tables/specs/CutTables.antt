-- What single statements of a cut make of the tables of submissions, entries and numbers.
use Rattle.std.specs.Prelude.{ℕ, Bool, true, ◌&&◌, ◌==◌, if◌then◌else◌, List, Some, bytes_eq}
use Rattle.std.specs.List.{list_any}
use Rattle.sqlite_keyed.specs.Lists.{update_where, insert_sorted}
use Rattle.desk_history.specs.declared.sent_entry.SentEntry.{SentEntry}
use Rattle.desk_book.specs.declared.flat_rows.LapsedRow.{LapsedRow}
use Rattle.desk_book.specs.declared.flat_rows.SentRow.{SentRow}
use Rattle.sql_tables.specs.Description.{key_cmp}
use Rattle.sql_tables.specs.DeskTables as the
use Rattle.sql_tables.specs.declared.records.EntryRecord.{EntryRecord}
use Rattle.sql_tables.specs.declared.records.NumberRecord.{NumberRecord}
use Rattle.sql_tables.specs.declared.records.SubmissionRecord.{SubmissionRecord}

abbrev pub is_row : (company : List ℕ) → (order : ℕ) → SubmissionRecord → Bool
is_row c order r = bytes_eq r.head.company c && r.head.order == order

-- a submission is sent
abbrev pub mark_sent : SentRow → List SubmissionRecord → List SubmissionRecord
mark_sent s = update_where (is_row s.company s.order) (λ r. record { head = record r.head { settled = Some s.settled }; printed = Some s.printed })

-- a retry lapses
abbrev pub mark_lapsed : LapsedRow → List SubmissionRecord → List SubmissionRecord
mark_lapsed l = update_where (is_row l.company l.order) (λ r. record r { head = record r.head { lapsed = true } })

abbrev pub is_entry_row : (company : List ℕ) → (order : ℕ) → (index : ℕ) → EntryRecord → Bool
is_entry_row c order index r = bytes_eq r.company c && r.order == order && r.index == index

-- an entry gets its place
abbrev pub mark_entry : (place : ℕ) → SentEntry → List EntryRecord → List EntryRecord
mark_entry place e = update_where (is_entry_row e.company e.order e.index) (λ r. record r { place = Some place })

abbrev pub has_sequence : (sequence : ℕ) → NumberRecord → Bool
has_sequence s n = n.sequence == s

-- a sequence gets the place of the youngest entry that has it
abbrev pub with_number : (sequence : ℕ) → (place : ℕ) → List NumberRecord → List NumberRecord
with_number s place ns =
    if list_any (has_sequence s) ns then update_where (has_sequence s) (λ n. record n { place = place }) ns
    else insert_sorted (key_cmp the.sequences) (record { sequence = s; place = place }) ns

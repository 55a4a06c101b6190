-- The row of a query has the columns of the table's row that the query names: here by their places, from 0.
use Rattle.std.proofs.Common.{◌≡◌, ℕ, List, [], ◌∷◌, map, refl}
use Rattle.sqlite_value.specs.Order.{Row, column}
use Rattle.sqlite_value.specs.declared.value.Value.{Value}
use Rattle.sql_tables.specs.Description.{as_row}
use Rattle.sql_tables.specs.DeskTables as the
use Rattle.sql_tables.specs.QueryRows.{keyed_identity_row, submission_head_row, submission_facts_row, order_and_settlement_row, numbered_entry_row, placed_entry_row, entry_place_row, entry_return_row, return_line_row, change_line_row, posting_line_row, suspense_line_row, day_sum_row}
use Rattle.sql_tables.specs.Selected.{keyed_identity_of, head_of, facts_of, order_of, numbered_of, placed_of, entry_place_of, return_of, return_line_of, change_line_of, posting_line_of, day_sum_of}
use Rattle.sql_tables.specs.declared.records.BalanceRecord.{BalanceRecord}
use Rattle.sql_tables.specs.declared.records.ChangeRecord.{ChangeRecord}
use Rattle.sql_tables.specs.declared.records.DeskRecord.{DeskRecord}
use Rattle.sql_tables.specs.declared.records.EntryRecord.{EntryRecord}
use Rattle.sql_tables.specs.declared.records.PostingRecord.{PostingRecord}
use Rattle.sql_tables.specs.declared.records.ReturnRecord.{ReturnRecord}
use Rattle.sql_tables.specs.declared.records.SubmissionRecord.{SubmissionRecord}
use Rattle.sql_tables.specs.declared.records.SuspenseRecord.{SuspenseRecord}

abbrev columns_in : Row → List ℕ → List Value
columns_in row places = map (column row) places

identity : (d : DeskRecord) → keyed_identity_row (keyed_identity_of d) ≡ columns_in (as_row the.desk d) (2 ∷ 3 ∷ 4 ∷ 5 ∷ 6 ∷ [])
identity d = refl

head : (s : SubmissionRecord) → submission_head_row (head_of s) ≡ columns_in (as_row the.submissions s) (0 ∷ 1 ∷ 2 ∷ 3 ∷ 4 ∷ 5 ∷ 6 ∷ 7 ∷ 8 ∷ 9 ∷ 10 ∷ [])
head s = refl

facts : (s : SubmissionRecord) → submission_facts_row (facts_of s) ≡ columns_in (as_row the.submissions s) (2 ∷ 3 ∷ 4 ∷ 10 ∷ [])
facts s = refl

order : (s : SubmissionRecord) → order_and_settlement_row (order_of s) ≡ columns_in (as_row the.submissions s) (1 ∷ 10 ∷ [])
order s = refl

numbered : (e : EntryRecord) → numbered_entry_row (numbered_of e) ≡ columns_in (as_row the.entries e) (2 ∷ 3 ∷ 4 ∷ 5 ∷ 6 ∷ 7 ∷ 8 ∷ 9 ∷ 10 ∷ [])
numbered e = refl

placed : (e : EntryRecord) → placed_entry_row (placed_of e) ≡ columns_in (as_row the.entries e) (0 ∷ 1 ∷ 2 ∷ 3 ∷ 4 ∷ 5 ∷ 6 ∷ 7 ∷ 8 ∷ 9 ∷ 10 ∷ [])
placed e = refl

entry_place : (e : EntryRecord) → entry_place_row (entry_place_of e) ≡ columns_in (as_row the.entries e) (0 ∷ 1 ∷ 11 ∷ [])
entry_place e = refl

back : (r : ReturnRecord) → entry_return_row (return_of r) ≡ columns_in (as_row the.returns r) (3 ∷ 4 ∷ 5 ∷ 6 ∷ [])
back r = refl

return_line : (r : ReturnRecord) → return_line_row (return_line_of r) ≡ columns_in (as_row the.returns r) (0 ∷ 2 ∷ 3 ∷ 4 ∷ 5 ∷ 6 ∷ 7 ∷ [])
return_line r = refl

change_line : (c : ChangeRecord) → change_line_row (change_line_of c) ≡ columns_in (as_row the.changes c) (2 ∷ 3 ∷ 4 ∷ 5 ∷ 6 ∷ [])
change_line c = refl

posting_line : (p : PostingRecord) → posting_line_row (posting_line_of p.posting) ≡ columns_in (as_row the.postings p) (2 ∷ 3 ∷ 4 ∷ 5 ∷ 6 ∷ [])
posting_line p = refl

suspense_line : (s : SuspenseRecord) → suspense_line_row s.row ≡ columns_in (as_row the.suspense s) (1 ∷ 2 ∷ 3 ∷ 4 ∷ 5 ∷ 6 ∷ 7 ∷ [])
suspense_line s = refl

day_sum : (b : BalanceRecord) → day_sum_row (day_sum_of b) ≡ columns_in (as_row the.balances b) (1 ∷ 2 ∷ [])
day_sum b = refl

-- What the queries of a desk find in its tables.
use Rattle.std.specs.Prelude.{◌≡◌, ℕ, ℤ, Bool, false, ◌&&◌, ◌||◌, ◌==◌, nat_le, not, is_none, List, map, filter, find, reverse, sum_by, slice_get, IsPermutation, Option, Some, None, option_map, unwrap_or, bytes_eq}
use Rattle.std.specs.Ordering.{nat_cmp, on}
use Rattle.desk_accounts.specs.declared.account.Account.{Account}
use Rattle.desk_accounts.specs.declared.posting.Posting.{Posting}
use Rattle.desk_accounts.specs.Posting.{same_account}
use Rattle.desk_book.specs.declared.row.Row.{Row}
use Rattle.desk_book.specs.Steps.{is_file}
use Rattle.desk_history.specs.declared.operations.DaySum.{DaySum}
use Rattle.desk_history.specs.declared.operations.SuspenseRow.{SuspenseRow}
use Rattle.desk_history.specs.declared.operations.TakenFile.{TakenFile}
use Rattle.desk_history.specs.declared.reports.RetriedEntry.{RetriedEntry}
use Rattle.desk_history.specs.Intake.{has_key}
use Rattle.desk_history.specs.Operator.{has_id}
use Rattle.desk_rules.specs.declared.bodies.company.Company.{Company}
use Rattle.sql_tables.specs.Beside.{is_balance_of}
use Rattle.sql_tables.specs.CutTables.{is_row, is_entry_row}
use Rattle.sql_tables.specs.KeyOrders.{IsInOrder}
use Rattle.sql_tables.specs.RowParts.{row_of_parts}
use Rattle.sql_tables.specs.Selected.{head_of, facts_of, order_of, amount_of, numbered_of, placed_of, entry_place_of, return_of, return_line_of, change_line_of, day_sum_of}
use Rattle.sql_tables.specs.Tables.{Tables}
use Rattle.sql_tables.specs.declared.records.AuthorizationRecord.{AuthorizationRecord}
use Rattle.sql_tables.specs.declared.records.EntryRecord.{EntryRecord}
use Rattle.sql_tables.specs.declared.records.NumberRecord.{NumberRecord}
use Rattle.sql_tables.specs.declared.records.ReturnRecord.{ReturnRecord}
use Rattle.sql_tables.specs.declared.records.SubmissionRecord.{SubmissionRecord}
use Rattle.sql_tables.specs.declared.row.entries.EntryAmount.{EntryAmount}
use Rattle.sql_tables.specs.declared.row.entries.EntryPlace.{EntryPlace}
use Rattle.sql_tables.specs.declared.row.entries.NumberedEntry.{NumberedEntry}
use Rattle.sql_tables.specs.declared.row.entries.PlacedEntry.{PlacedEntry}
use Rattle.sql_tables.specs.declared.row.items.ChangeLine.{ChangeLine}
use Rattle.sql_tables.specs.declared.row.items.EntryReturn.{EntryReturn}
use Rattle.sql_tables.specs.declared.row.items.ReturnLine.{ReturnLine}
use Rattle.sql_tables.specs.declared.row.submissions.OrderAndSettlement.{OrderAndSettlement}
use Rattle.sql_tables.specs.declared.row.submissions.SubmissionFacts.{SubmissionFacts}
use Rattle.sql_tables.specs.declared.row.submissions.SubmissionHead.{SubmissionHead}

-- SELECT no .. ORDER BY no DESC LIMIT 1: the number of the last row, 0 before the first
abbrev pub number_of_last : {X : Type 0} → (X → ℕ) → List X → ℕ
number_of_last number xs = unwrap_or (option_map number (slice_get (reverse xs) 0)) 0

-- ---- companies

-- SELECT .. FROM companies WHERE id = ? ORDER BY id
abbrev pub company_in : (id : List ℕ) → Tables → Option Company
company_in id t = find (has_id id) t.companies

-- ---- submissions

-- WHERE company = ?
abbrev pub is_of : (company : List ℕ) → SubmissionRecord → Bool
is_of c s = bytes_eq s.head.company c

-- WHERE company = ? AND ref = ?
abbrev pub is_under : (company : List ℕ) → (reference : List ℕ) → SubmissionRecord → Bool
is_under c reference s = bytes_eq s.head.company c && bytes_eq s.head.reference reference

-- settled IS NULL AND lapsed = 0
abbrev pub is_waiting : SubmissionRecord → Bool
is_waiting s = is_none s.head.settled && not s.head.lapsed

abbrev pub is_since : (since : ℕ) → (settled : Option ℕ) → Bool
is_since since None = false
is_since since (Some on) = nat_le since on

-- WHERE company = ? AND (settled >= ? OR settled IS NULL AND lapsed = 0)
abbrev pub is_open_of : (company : List ℕ) → (since : ℕ) → SubmissionRecord → Bool
is_open_of c since s = is_of c s && (is_since since s.head.settled || is_waiting s)

-- WHERE company = ? AND settled IS NULL AND lapsed = 0
abbrev pub is_waiting_of : (company : List ℕ) → SubmissionRecord → Bool
is_waiting_of c s = is_of c s && is_waiting s

abbrev pub tries : (of : List ℕ) → (index : ℕ) → Option RetriedEntry → Bool
tries of index None = false
tries of index (Some r) = bytes_eq r.of of && r.index == index

-- WHERE company = ? AND of_ref = ? AND of_index = ?
abbrev pub is_retry_of : (company : List ℕ) → (of : List ℕ) → (index : ℕ) → SubmissionRecord → Bool
is_retry_of c of index s = is_of c s && tries of index s.head.retried

-- the submissions that pass, by company and order
abbrev pub heads_in : (SubmissionRecord → Bool) → Tables → List SubmissionHead
heads_in test t = map head_of (filter test t.submissions)

-- the one of a company under a reference
abbrev pub head_under : (company : List ℕ) → (reference : List ℕ) → Tables → Option SubmissionHead
head_under c reference t = option_map head_of (find (is_under c reference) t.submissions)

-- SELECT ord, settled .. WHERE company = ? AND ref = ?
abbrev pub order_in : (company : List ℕ) → (reference : List ℕ) → Tables → Option OrderAndSettlement
order_in c reference t = option_map order_of (find (is_under c reference) t.submissions)

-- SELECT ref, sec, direction, settled .. WHERE company = ? AND ord = ?
abbrev pub facts_in : (company : List ℕ) → (order : ℕ) → Tables → Option SubmissionFacts
facts_in c order t = option_map facts_of (find (is_row c order) t.submissions)

-- SELECT ord .. WHERE company = ? ORDER BY company DESC, ord DESC LIMIT 1: the last order, 0 before the first
abbrev pub last_order : (company : List ℕ) → Tables → ℕ
last_order c t = number_of_last (λ s. s.head.order) (filter (is_of c) t.submissions)

-- ---- what stands of one submission

abbrev pub is_entry_of : (company : List ℕ) → (order : ℕ) → EntryRecord → Bool
is_entry_of c order e = bytes_eq e.company c && e.order == order

-- SELECT idx, .. FROM entries WHERE company = ? AND ord = ? ORDER BY company, ord, idx
abbrev pub entries_in : (company : List ℕ) → (order : ℕ) → Tables → List NumberedEntry
entries_in c order t = map numbered_of (filter (is_entry_of c order) t.entries)

-- SELECT idx, prenote, cents FROM entries WHERE company = ? AND ord = ? ORDER BY company, ord, idx
abbrev pub amounts_in : (company : List ℕ) → (order : ℕ) → Tables → List EntryAmount
amounts_in c order t = map amount_of (filter (is_entry_of c order) t.entries)

-- SELECT info FROM entries WHERE company = ? AND ord = ? ORDER BY company, ord, idx
abbrev pub infos_in : (company : List ℕ) → (order : ℕ) → Tables → List (Option (List ℕ))
infos_in c order t = map (λ e. e.entry.info) (filter (is_entry_of c order) t.entries)

-- SELECT coalesce(sum(cents), 0) FROM entries WHERE company = ? AND ord = ?
abbrev pub cents_in : (company : List ℕ) → (order : ℕ) → Tables → ℕ
cents_in c order t = sum_by (λ e. e.entry.cents) (filter (is_entry_of c order) t.entries)

-- SELECT idx, .. FROM entries WHERE company = ? AND ord = ? AND idx = ? ORDER BY company, ord, idx
abbrev pub entry_at : (company : List ℕ) → (order : ℕ) → (index : ℕ) → Tables → Option NumberedEntry
entry_at c order index t = option_map numbered_of (find (is_entry_row c order index) t.entries)

abbrev pub is_return_in : (company : List ℕ) → (order : ℕ) → ReturnRecord → Bool
is_return_in c order r = bytes_eq r.company c && r.order == order

-- SELECT idx, code, day, late FROM returns WHERE company = ? AND ord = ? ORDER BY no
abbrev pub returns_in : (company : List ℕ) → (order : ℕ) → Tables → List EntryReturn
returns_in c order t = map return_of (filter (is_return_in c order) t.returns)

-- SELECT idx, code, day, late FROM returns WHERE company = ? AND ord = ? AND idx = ? ORDER BY no
abbrev pub is_return_at : (company : List ℕ) → (order : ℕ) → (index : ℕ) → ReturnRecord → Bool
is_return_at c order index r = bytes_eq r.company c && r.order == order && r.index == index

abbrev pub return_at : (company : List ℕ) → (order : ℕ) → (index : ℕ) → Tables → Option EntryReturn
return_at c order index t = option_map return_of (find (is_return_at c order index) t.returns)

-- SELECT ord FROM returns WHERE company = ? AND day >= ? ORDER BY no
abbrev pub is_return_since : (company : List ℕ) → (day : ℕ) → ReturnRecord → Bool
is_return_since c day r = bytes_eq r.company c && nat_le day r.day

abbrev pub orders_returned : (company : List ℕ) → (since : ℕ) → Tables → List ℕ
orders_returned c since t = map (λ r. r.order) (filter (is_return_since c since) t.returns)

abbrev pub is_authorization_of : (company : List ℕ) → (order : ℕ) → AuthorizationRecord → Bool
is_authorization_of c order a = bytes_eq a.company c && a.order == order

-- SELECT day FROM authorizations WHERE company = ? AND ord = ? ORDER BY company, ord
abbrev pub authorized_in : (company : List ℕ) → (order : ℕ) → Tables → Option ℕ
authorized_in c order t = option_map (λ a. a.day) (find (is_authorization_of c order) t.authorizations)

-- the row of the book that a submission's head is the beginning of
abbrev pub whole_row : Tables → SubmissionHead → Row
whole_row t s = row_of_parts s (entries_in s.company s.order t) (returns_in s.company s.order t) (authorized_in s.company s.order t)

abbrev pub rows_in : (SubmissionRecord → Bool) → Tables → List Row
rows_in test t = map (whole_row t) (heads_in test t)

abbrev pub row_under_in : (company : List ℕ) → (reference : List ℕ) → Tables → Option Row
row_under_in c reference t = option_map (whole_row t) (head_under c reference t)

-- ---- sent entries

-- SELECT nth FROM numbers WHERE sequence = ? ORDER BY sequence
abbrev pub place_in : (sequence : ℕ) → Tables → Option ℕ
place_in s t = option_map (λ n. n.place) (find (λ n. n.sequence == s) t.numbers)

-- SELECT nth FROM numbers WHERE sequence >= ? AND sequence <= ? ORDER BY sequence
abbrev pub is_between : (from : ℕ) → (to : ℕ) → NumberRecord → Bool
is_between from to n = nat_le from n.sequence && nat_le n.sequence to

abbrev pub places_between : (from : ℕ) → (to : ℕ) → Tables → List ℕ
places_between from to t = map (λ n. n.place) (filter (is_between from to) t.numbers)

abbrev pub is_place : (place : ℕ) → Option ℕ → Bool
is_place place None = false
is_place place (Some n) = n == place

abbrev pub is_at_place : (place : ℕ) → EntryRecord → Bool
is_at_place place e = is_place place e.place

-- SELECT company, ord, idx, .. FROM entries WHERE seq = ? ORDER BY company, ord, idx
abbrev pub entry_at_place : (place : ℕ) → Tables → Option PlacedEntry
entry_at_place place t = option_map placed_of (find (is_at_place place) t.entries)

abbrev pub is_up_to : (to : ℕ) → (place : Option ℕ) → Bool
is_up_to to None = false
is_up_to to (Some n) = nat_le n to

abbrev pub is_placed_between : (from : ℕ) → (to : ℕ) → EntryRecord → Bool
is_placed_between from to e = is_since from e.place && is_up_to to e.place

-- SELECT company, ord, seq FROM entries WHERE seq >= ? AND seq <= ? ORDER BY company, ord, idx
abbrev pub entry_places_in : (from : ℕ) → (to : ℕ) → Tables → List EntryPlace
entry_places_in from to t = map entry_place_of (filter (is_placed_between from to) t.entries)

-- SELECT sequence, nth FROM numbers ORDER BY nth DESC LIMIT 1: the one of the last place, where no two have one
abbrev pub IsLastNumber : Option NumberRecord → Tables → Type 0
IsLastNumber last t = (by_place : List NumberRecord) → IsPermutation t.numbers by_place → IsInOrder (on (λ n. n.place) nat_cmp) by_place → last ≡ slice_get (reverse by_place) 0

-- ---- items, lines and files

-- SELECT no, ord, idx, code, day, late, info FROM returns WHERE company = ? ORDER BY no
abbrev pub return_lines_in : (company : List ℕ) → Tables → List ReturnLine
return_lines_in c t = map return_line_of (filter (λ r. bytes_eq r.company c) t.returns)

-- SELECT ord, idx, code, day, text FROM changes WHERE company = ? ORDER BY no
abbrev pub change_lines_in : (company : List ℕ) → Tables → List ChangeLine
change_lines_in c t = map change_line_of (filter (λ x. bytes_eq x.company c) t.changes)

-- SELECT value_day, cents, cause, ref, idx FROM postings WHERE account = ? ORDER BY no
abbrev pub lines_in : Account → Tables → List Posting
lines_in account t = map (λ p. p.posting) (filter (λ p. same_account p.posting.account account) t.postings)

-- SELECT value_day, cents FROM balances WHERE account = ? ORDER BY account, value_day
abbrev pub sums_in : Account → Tables → List DaySum
sums_in account t = map day_sum_of (filter (λ b. same_account b.account account) t.balances)

-- SELECT cents FROM balances WHERE account = ? AND value_day = ? ORDER BY account, value_day
abbrev pub sum_in : Account → (value_day : ℕ) → Tables → Option ℤ
sum_in account day t = option_map (λ b. b.cents) (find (is_balance_of account day) t.balances)

-- SELECT file_key, item, why, code, trace, cents, day FROM suspense ORDER BY no
abbrev pub suspense_in : Tables → List SuspenseRow
suspense_in t = map (λ s. s.row) t.suspense

-- SELECT modifier FROM files WHERE day = ? ORDER BY day, modifier
abbrev pub modifiers_in : (day : ℕ) → Tables → List ℕ
modifiers_in day t = map (λ f. f.modifier) (filter (λ f. f.day == day) t.files)

-- SELECT text FROM files WHERE day = ? AND modifier = ? ORDER BY day, modifier
abbrev pub text_in : (day : ℕ) → (modifier : ℕ) → Tables → Option (List ℕ)
text_in day modifier t = option_map (λ f. f.text) (find (is_file day modifier) t.files)

-- SELECT .. FROM taken WHERE file_key = ? ORDER BY file_key
abbrev pub taken_in : (key : List ℕ) → Tables → Option TakenFile
taken_in key t = find (has_key key) t.taken

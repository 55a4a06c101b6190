-- What each write of a desk makes of its tables, and what its statements tell of them.
use Rattle.std.specs.Prelude.{◌≡◌, ⊤, ℕ, ◌+◌, ℤ, pos, ◌+ℤ◌, if◌then◌else◌, false, List, map, find, Option, Some, None, option_map, option_and_then, unwrap_or}
use Rattle.std.specs.Int.{IsInRange}
use Rattle.std.specs.List.{list_any}
use Rattle.std.specs.Ordering.{nat_cmp, on}
use Rattle.sqlite_keyed.specs.Lists.{insert_sorted, update_where}
use Rattle.sql_statements.specs.Edits.{Edit, no_edit, then_edit, each_edit, each_edit_from}
use Rattle.ach_fields.specs.Trace.{most_sequence}
use Rattle.desk_accounts.specs.declared.account.Account.{Account}
use Rattle.desk_accounts.specs.declared.posting.Posting.{Posting}
use Rattle.desk_book.specs.declared.flat_rows.ChangedRow.{ChangedRow}
use Rattle.desk_book.specs.declared.flat_rows.FileRow.{FileRow}
use Rattle.desk_book.specs.declared.flat_rows.LapsedRow.{LapsedRow}
use Rattle.desk_book.specs.declared.flat_rows.ReturnedRow.{ReturnedRow}
use Rattle.desk_book.specs.declared.flat_rows.SentRow.{SentRow}
use Rattle.desk_book.specs.Steps.{CutWrite, IntakeWrite, is_file}
use Rattle.desk_history.specs.declared.operations.SuspenseRow.{SuspenseRow}
use Rattle.desk_history.specs.declared.operations.TakenFile.{TakenFile}
use Rattle.desk_history.specs.declared.sent_entry.SentEntry.{SentEntry}
use Rattle.desk_history.specs.History.{with_limits}
use Rattle.desk_rules.specs.declared.bodies.company.Company.{Company}
use Rattle.desk_rules.specs.declared.bodies.company.Limits.{Limits}
use Rattle.desk_rules.specs.declared.bodies.submission.Entry.{Entry}
use Rattle.desk_rules.specs.declared.bodies.submission.Retry.{Retry}
use Rattle.desk_rules.specs.declared.bodies.submission.Submission.{Submission}
use Rattle.sql_tables.specs.Beside.{is_balance_of}
use Rattle.sql_tables.specs.CutTables.{is_row, mark_sent, mark_lapsed, is_entry_row, mark_entry, with_number}
use Rattle.sql_tables.specs.Description.{key_cmp}
use Rattle.sql_tables.specs.DeskTables as the
use Rattle.sql_tables.specs.Encodes.{retried_entry, return_under, change_under, AsksAs}
use Rattle.sql_tables.specs.TableReads.{number_of_last, company_in, is_under, is_return_at, sum_in, taken_in}
use Rattle.sql_tables.specs.Tables.{Tables}
use Rattle.sql_tables.specs.declared.records.BalanceRecord.{BalanceRecord}
use Rattle.sql_tables.specs.declared.records.EntryRecord.{EntryRecord}
use Rattle.sql_tables.specs.declared.records.SubmissionRecord.{SubmissionRecord}

-- ---- the desk, its calendar and its companies

-- UPDATE desk SET day = ? WHERE id = 1
abbrev pub set_day_edit : (day : ℕ) → Edit Tables
set_day_edit day = record { after = λ t. record t { desk = record t.desk { day = Some day } }; Tells = λ _. ⊤ }

-- DELETE FROM holidays, and an INSERT of each
abbrev pub set_holidays_edit : (days : List ℕ) → Edit Tables
set_holidays_edit days = record { after = λ t. record t { holidays = days }; Tells = λ _. ⊤ }

-- INSERT INTO companies
abbrev pub put_company_edit : Company → Edit Tables
put_company_edit k = record { after = λ t. record t { companies = insert_sorted (key_cmp the.companies) k t.companies }; Tells = λ t. company_in k.id t ≡ None }

-- UPDATE companies SET .. WHERE id = ?
abbrev pub put_limits_edit : (id : List ℕ) → Limits → Edit Tables
put_limits_edit id limits = record { after = λ t. record t { companies = map (with_limits id limits) t.companies }; Tells = λ _. ⊤ }

-- ---- a submission or a retry

-- a held one
abbrev pub new_submission_record : (company : List ℕ) → (order : ℕ) → Submission → Option Retry → SubmissionRecord
new_submission_record c order s retry = record {
  head = record {
    company = c;
    order = order;
    reference = s.reference;
    sec = s.sec;
    direction = s.direction;
    description = s.description;
    asked = s.day;
    retried = option_map retried_entry retry;
    lapsed = false;
    settled = None;
  };
  printed = None;
}

-- INSERT INTO submissions; its reference is new in the company, and a retry asks under it and for its day
abbrev pub put_submission_edit : (company : List ℕ) → (order : ℕ) → Submission → Option Retry → Edit Tables
put_submission_edit c order s retry = record {
  after = λ t. record t { submissions = insert_sorted (key_cmp the.submissions) (new_submission_record c order s retry) t.submissions };
  Tells = λ t. (find (is_row c order) t.submissions ≡ None) × (find (is_under c s.reference) t.submissions ≡ None) × AsksAs s.reference s.day retry;
}

-- INSERT INTO entries: the entry with this number, not sent
abbrev pub put_entry_edit : (company : List ℕ) → (order : ℕ) → (index : ℕ) → Entry → Edit Tables
put_entry_edit c order index e = record {
  after = λ t. record t { entries = insert_sorted (key_cmp the.entries) (record { company = c; order = order; index = index; entry = e; place = None }) t.entries };
  Tells = λ t. find (is_entry_row c order index) t.entries ≡ None;
}

-- INSERT INTO authorizations, of a retry that the receiver authorized again
abbrev pub put_authorization_edit : (company : List ℕ) → (order : ℕ) → (authorized : Option ℕ) → Edit Tables
put_authorization_edit c order None = no_edit
put_authorization_edit c order (Some day) = record {
  after = λ t. record t { authorizations = insert_sorted (key_cmp the.authorizations) (record { company = c; order = order; day = day }) t.authorizations };
  Tells = λ _. ⊤;
}

abbrev pub add_submission_edit : (company : List ℕ) → (order : ℕ) → Submission → Option Retry → Edit Tables
add_submission_edit c order s retry =
    then_edit (put_submission_edit c order s retry)
    (then_edit (each_edit_from (put_entry_edit c order) 1 s.entries)
    (put_authorization_edit c order (option_and_then (λ r. r.authorized) retry)))

-- ---- lines of accounts

-- SELECT no .. ORDER BY no DESC LIMIT 1: the number after the last one
abbrev pub next_number : {X : Type 0} → (X → ℕ) → List X → ℕ
next_number number xs = number_of_last number xs + 1

-- INSERT INTO balances .. ON CONFLICT (account, value_day) DO UPDATE SET cents = ?
abbrev pub with_balance : Account → (value_day : ℕ) → (cents : ℤ) → List BalanceRecord → List BalanceRecord
with_balance account day cents bs =
    if list_any (is_balance_of account day) bs then update_where (is_balance_of account day) (λ b. record b { cents = cents }) bs
    else insert_sorted (key_cmp the.balances) (record { account = account; value_day = day; cents = cents }) bs

-- the sum of the line's account and value day, with the line
abbrev pub sum_with : Posting → Tables → ℤ
sum_with p t = unwrap_or (sum_in p.account p.value_day t) (pos 0) +ℤ p.cents

-- INSERT INTO postings, under this number; the balance of its account and value day is read before and written
abbrev pub put_line_edit : (number : ℕ) → Posting → Edit Tables
put_line_edit n p = record {
  after = λ t. record t {
    postings = insert_sorted (on (λ x. x.number) nat_cmp) (record { number = n; posting = p }) t.postings;
    balances = with_balance p.account p.value_day (sum_with p t) t.balances;
  };
  Tells = λ _. ⊤;
}

-- an edit of each, numbered on from the last that the tables have
abbrev pub each_edit_on : {X : Type 0} → (next : Tables → ℕ) → (ℕ → X → Edit Tables) → List X → Edit Tables
each_edit_on next edit xs = record {
  after = λ t. (each_edit_from edit (next t) xs).after t;
  Tells = λ t. (each_edit_from edit (next t) xs).Tells t;
}

-- each line, numbered on from the last
abbrev pub put_lines_edit : List Posting → Edit Tables
put_lines_edit = each_edit_on (λ t. next_number (λ x. x.number) t.postings) put_line_edit

-- ---- a cut

-- the submission of this number is there and waits
pub record Waits (company : List ℕ) (order : ℕ) (t : Tables) : Type 0 where
  pub submission : SubmissionRecord
  pub found : find (is_row company order) t.submissions ≡ Some submission
  pub unsettled : submission.head.settled ≡ None
  pub lasts : submission.head.lapsed ≡ false

-- UPDATE submissions SET settled = ?, file_day = ?, modifier = ?, batch = ? WHERE company = ? AND ord = ? AND settled IS NULL AND lapsed = 0
abbrev pub send_edit : SentRow → Edit Tables
send_edit s = record { after = λ t. record t { submissions = mark_sent s t.submissions }; Tells = Waits s.company s.order }

-- UPDATE submissions SET lapsed = 1 WHERE company = ? AND ord = ? AND settled IS NULL AND lapsed = 0
abbrev pub lapse_edit : LapsedRow → Edit Tables
lapse_edit l = record { after = λ t. record t { submissions = mark_lapsed l t.submissions }; Tells = Waits l.company l.order }

-- the entry is there and was not sent
pub record IsUnsent (e : SentEntry) (t : Tables) : Type 0 where
  pub record_of : EntryRecord
  pub found : find (is_entry_row e.company e.order e.index) t.entries ≡ Some record_of
  pub unplaced : record_of.place ≡ None

-- UPDATE entries SET seq = ? WHERE company = ? AND ord = ? AND idx = ? AND seq IS NULL, and its number in place of the one before
abbrev pub place_edit : (place : ℕ) → SentEntry → Edit Tables
place_edit place e = record {
  after = λ t. record t { entries = mark_entry place e t.entries; numbers = with_number e.sequence place t.numbers };
  Tells = λ t. IsUnsent e t × IsInRange 1 most_sequence e.sequence;
}

-- INSERT INTO files; the day has none of this modifier
abbrev pub put_file_edit : FileRow → Edit Tables
put_file_edit f = record { after = λ t. record t { files = insert_sorted (key_cmp the.files) f t.files }; Tells = λ t. find (is_file f.day f.modifier) t.files ≡ None }

-- a cut whose entries get places from a first one on
abbrev pub commit_cut_edit : (first : ℕ) → CutWrite → Edit Tables
commit_cut_edit first x =
    then_edit (each_edit send_edit x.sent)
    (then_edit (each_edit lapse_edit x.lapsed)
    (then_edit (each_edit_from place_edit first x.entries)
    (then_edit (put_lines_edit x.postings)
    (each_edit put_file_edit x.files))))

-- ---- an incoming file

-- INSERT INTO returns, of an entry that was not returned before
abbrev pub put_return_edit : (number : ℕ) → ReturnedRow → Edit Tables
put_return_edit n x = record {
  after = λ t. record t { returns = insert_sorted (on (λ r. r.number) nat_cmp) (return_under n x) t.returns };
  Tells = λ t. find (is_return_at x.company x.order x.row.index) t.returns ≡ None;
}

-- INSERT INTO changes
abbrev pub put_change_edit : (number : ℕ) → ChangedRow → Edit Tables
put_change_edit n x = record { after = λ t. record t { changes = insert_sorted (on (λ c. c.number) nat_cmp) (change_under n x) t.changes }; Tells = λ _. ⊤ }

-- INSERT INTO suspense
abbrev pub put_suspense_edit : (number : ℕ) → SuspenseRow → Edit Tables
put_suspense_edit n x = record { after = λ t. record t { suspense = insert_sorted (on (λ s. s.number) nat_cmp) (record { number = n; row = x }) t.suspense }; Tells = λ _. ⊤ }

-- INSERT INTO taken; the key is new
abbrev pub put_taken_edit : TakenFile → Edit Tables
put_taken_edit f = record { after = λ t. record t { taken = insert_sorted (key_cmp the.taken) f t.taken }; Tells = λ t. taken_in f.key t ≡ None }

abbrev pub commit_intake_edit : IntakeWrite → Edit Tables
commit_intake_edit x =
    then_edit (each_edit_on (λ t. next_number (λ r. r.number) t.returns) put_return_edit x.returned)
    (then_edit (each_edit_on (λ t. next_number (λ c. c.number) t.changes) put_change_edit x.changed)
    (then_edit (each_edit_on (λ t. next_number (λ s. s.number) t.suspense) put_suspense_edit x.suspense)
    (then_edit (put_lines_edit x.postings)
    (put_taken_edit x.file))))

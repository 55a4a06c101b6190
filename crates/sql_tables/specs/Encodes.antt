-- What each table has of the flat rows of a desk.
use Rattle.std.specs.Prelude.{◌≡◌, ⊤, ℕ, Bool, true, false, ◌&&◌, ◌==◌, List, map, filter_map, find, reverse, All, IsPermutation, Option, Some, None, option_map, option_and_then, bytes_eq}
use Rattle.std.specs.List.{enumerate_from, flat_map}
use Rattle.desk_accounts.specs.declared.posting.Posting.{Posting}
use Rattle.desk_history.specs.declared.reports.RetriedEntry.{RetriedEntry}
use Rattle.desk_history.specs.declared.sent_entry.FilePlace.{FilePlace}
use Rattle.desk_history.specs.declared.sent_entry.SentEntry.{SentEntry}
use Rattle.desk_history.specs.declared.operations.SuspenseRow.{SuspenseRow}
use Rattle.desk_rules.specs.declared.bodies.submission.Entry.{Entry}
use Rattle.desk_rules.specs.declared.bodies.submission.Retry.{Retry}
use Rattle.desk_rules.specs.declared.rules.entry_fact.EntryState.{EntryState}
use Rattle.desk_rules.specs.declared.rules.entry_fact.EntryState.TheVariants as states
use Rattle.desk_book.specs.declared.flat_rows.ChangedRow.{ChangedRow}
use Rattle.desk_book.specs.declared.flat_rows.ReturnedRow.{ReturnedRow}
use Rattle.desk_book.specs.declared.flat_rows.SentRow.{SentRow}
use Rattle.desk_book.specs.Standing.{is_row_under}
use Rattle.desk_store.specs.Rows.{CompanyRow, Rows, is_printed_of}
use Rattle.sql_tables.specs.Tables.{Tables}
use Rattle.sql_tables.specs.declared.records.AuthorizationRecord.{AuthorizationRecord}
use Rattle.sql_tables.specs.declared.records.ChangeRecord.{ChangeRecord}
use Rattle.sql_tables.specs.declared.records.DeskRecord.{DeskRecord}
use Rattle.sql_tables.specs.declared.records.EntryRecord.{EntryRecord}
use Rattle.sql_tables.specs.declared.records.NumberRecord.{NumberRecord}
use Rattle.sql_tables.specs.declared.records.PostingRecord.{PostingRecord}
use Rattle.sql_tables.specs.declared.records.ReturnRecord.{ReturnRecord}
use Rattle.sql_tables.specs.declared.records.SubmissionRecord.{SubmissionRecord}
use Rattle.sql_tables.specs.declared.records.SuspenseRecord.{SuspenseRecord}

abbrev pub desk_record : Rows → DeskRecord
desk_record r = record { identity = r.identity; operator_key = r.operator_key; day = r.day }

-- ---- submissions

abbrev pub retried_entry : Retry → RetriedEntry
retried_entry retry = record { of = retry.of; index = retry.index }

-- where a cut printed a submission first
abbrev pub printed_at : List SentRow → (company : List ℕ) → (order : ℕ) → Option FilePlace
printed_at printed c order = option_map (λ s. s.printed) (find (is_printed_of c order) printed)

abbrev pub submission_record : List SentRow → CompanyRow → SubmissionRecord
submission_record printed x = record {
  head = record {
    company = x.company;
    order = x.row.order;
    reference = x.row.content.reference;
    sec = x.row.content.sec;
    direction = x.row.content.direction;
    description = x.row.content.description;
    asked = x.row.content.day;
    retried = option_map retried_entry x.row.retry;
    lapsed = x.row.lapsed;
    settled = x.row.settled;
  };
  printed = printed_at printed x.company x.row.order;
}

-- a retry asks under its content's reference for its content's day
abbrev pub AsksAs : (reference : List ℕ) → (day : ℕ) → Option Retry → Type 0
AsksAs reference day None = ⊤
AsksAs reference day (Some retry) = (retry.reference ≡ reference) × (retry.day ≡ day)

abbrev pub RetryFits : CompanyRow → Type 0
RetryFits x = AsksAs x.row.content.reference x.row.content.day x.row.retry

-- the row of a retry that the receiver authorized again
abbrev pub authorization_record : CompanyRow → Option AuthorizationRecord
authorization_record x = option_map (λ day. record { company = x.company; order = x.row.order; day = day }) (option_and_then (λ retry. retry.authorized) x.row.retry)

-- ---- entries

abbrev pub is_entry : (company : List ℕ) → (order : ℕ) → (index : ℕ) → SentEntry → Bool
is_entry c order index e = bytes_eq e.company c && e.order == order && e.index == index

-- the place from 1 of an entry among all that were sent, the oldest of which stands first
abbrev pub place_of_entry : List SentEntry → (company : List ℕ) → (order : ℕ) → (index : ℕ) → Option ℕ
place_of_entry sent c order index = option_map (λ p. p.0) (find (λ p. is_entry c order index p.1) (enumerate_from 1 sent))

abbrev pub entry_record : List SentEntry → (company : List ℕ) → (order : ℕ) → ℕ × Entry → EntryRecord
entry_record sent c order p = record { company = c; order = order; index = p.0; entry = p.1; place = place_of_entry sent c order p.0 }

abbrev pub entry_records : List SentEntry → CompanyRow → List EntryRecord
entry_records sent x = map (entry_record sent x.company x.row.order) (enumerate_from 1 x.row.content.entries)

-- the place from 1 of the youngest entry that has a sequence
abbrev pub youngest_place : List SentEntry → (sequence : ℕ) → Option ℕ
youngest_place sent s = option_map (λ p. p.0) (find (λ p. p.1.sequence == s) (reverse (enumerate_from 1 sent)))

abbrev pub place_of_number : List NumberRecord → (sequence : ℕ) → Option ℕ
place_of_number numbers s = option_map (λ n. n.place) (find (λ n. n.sequence == s) numbers)

-- of each sequence the youngest entry's place, and no other sequence
abbrev pub AreYoungest : List NumberRecord → List SentEntry → Type 0
AreYoungest numbers sent = (s : ℕ) → place_of_number numbers s ≡ youngest_place sent s

-- ---- states, which no column has

abbrev pub is_return_of : (company : List ℕ) → (order : ℕ) → (index : ℕ) → ReturnRecord → Bool
is_return_of c order index r = bytes_eq r.company c && r.order == order && r.index == index

abbrev pub sent_state : (settled : ℕ) → Option ReturnRecord → EntryState
sent_state on None = states.Sent on
sent_state on (Some r) = states.Returned on r.code r.day r.late

abbrev pub settled_state : (settled : Option ℕ) → Option ReturnRecord → EntryState
settled_state None back = states.Held
settled_state (Some on) back = sent_state on back

abbrev pub unless_lapsed : (lapsed : Bool) → EntryState → EntryState
unless_lapsed true state = states.Lapsed
unless_lapsed false state = state

-- lapsed, if its submission is; held, if that is not settled; else returned by its row of returns, or sent
abbrev pub entry_state : List ReturnRecord → CompanyRow → (index : ℕ) → EntryState
entry_state returns x index = unless_lapsed x.row.lapsed (settled_state x.row.settled (find (is_return_of x.company x.row.order index) returns))

abbrev pub HasStates : List ReturnRecord → CompanyRow → Type 0
HasStates returns x = x.row.states ≡ map (λ p. entry_state returns x p.0) (enumerate_from 1 x.row.content.entries)

-- ---- what is numbered in the order in which it came

abbrev pub is_submission_under : (company : List ℕ) → (reference : List ℕ) → CompanyRow → Bool
is_submission_under c reference x = bytes_eq x.company c && is_row_under reference x.row

-- the number in the company of the submission that has a reference
abbrev pub order_under : List CompanyRow → (company : List ℕ) → (reference : List ℕ) → Option ℕ
order_under rows c reference = option_map (λ x. x.row.order) (find (is_submission_under c reference) rows)

-- the row of a return under its number, with the order number that it has
abbrev pub return_under : (number : ℕ) → ReturnedRow → ReturnRecord
return_under n x = record {
  number = n;
  company = x.company;
  order = x.order;
  index = x.row.index;
  code = x.row.code;
  day = x.row.day;
  late = x.row.late;
  info = x.row.info;
}

-- the same with the order number of the submission that it names
abbrev pub return_record : List CompanyRow → ℕ × ReturnedRow → Option ReturnRecord
return_record rows p = option_map (λ order. return_under p.0 (record p.1 { order = order })) (order_under rows p.1.company p.1.row.reference)

-- the row of a change under its number
abbrev pub change_under : (number : ℕ) → ChangedRow → ChangeRecord
change_under n x = record {
  number = n;
  company = x.company;
  order = x.order;
  index = x.row.index;
  code = x.row.code;
  day = x.row.day;
  text = x.row.text;
}

abbrev pub change_record : List CompanyRow → ℕ × ChangedRow → Option ChangeRecord
change_record rows p = option_map (λ order. change_under p.0 (record p.1 { order = order })) (order_under rows p.1.company p.1.row.reference)

abbrev pub posting_record : ℕ × Posting → PostingRecord
posting_record p = record { number = p.0; posting = p.1 }

abbrev pub suspense_record : ℕ × SuspenseRow → SuspenseRecord
suspense_record p = record { number = p.0; row = p.1 }

-- ---- all tables

-- these are the tables of the flat rows; what they have of balances is beside this
pub record Encodes (t : Tables) (r : Rows) : Type 0 where
  pub desk : t.desk ≡ desk_record r
  pub holidays : t.holidays ≡ r.holidays
  pub companies : t.companies ≡ r.companies
  pub submissions : t.submissions ≡ map (submission_record r.printed) r.submissions
  pub entries : t.entries ≡ flat_map (entry_records r.sent) r.submissions
  pub returns : map Some t.returns ≡ map (return_record r.submissions) (enumerate_from 1 r.returned)
  pub changes : map Some t.changes ≡ map (change_record r.submissions) (enumerate_from 1 r.changed)
  pub postings : t.postings ≡ map posting_record (enumerate_from 1 r.postings)
  pub suspense : t.suspense ≡ map suspense_record (enumerate_from 1 r.suspense)
  pub files : IsPermutation r.files t.files
  pub taken : IsPermutation r.taken t.taken
  pub numbers : AreYoungest t.numbers r.sent
  pub authorizations : t.authorizations ≡ filter_map authorization_record r.submissions
  pub states : All (HasStates t.returns) r.submissions
  pub retries : All RetryFits r.submissions

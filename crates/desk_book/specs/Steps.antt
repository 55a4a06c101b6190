-- The effect of each write on a book, and when it may be made.
use Rattle.std.specs.Prelude.{◌≡◌, ⊤, ℕ, Bool, ◌+◌, ◌&&◌, ◌==◌, if◌then◌else◌, List, [], ◌∷◌, ◌++◌, map, find, fold, length, reverse, All, Contains, Option, Some, None, is_none, bytes_eq}
use Rattle.std.specs.List.{enumerate_from}
use Rattle.desk_accounts.specs.declared.posting.Posting.{Posting}
use Rattle.desk_rules.specs.declared.bodies.company.Company.{Company}
use Rattle.desk_rules.specs.declared.bodies.company.Limits.{Limits}
use Rattle.desk_rules.specs.declared.rules.entry_fact.EntryState.{EntryState}
use Rattle.desk_rules.specs.declared.rules.entry_fact.EntryState.TheVariants as states
use Rattle.desk_rules.specs.declared.bodies.submission.Retry.{Retry}
use Rattle.desk_rules.specs.declared.bodies.submission.Submission.{Submission}
use Rattle.desk_rules.specs.LimitChecks.{is_debit}
use Rattle.desk_history.specs.declared.operations.SuspenseRow.{SuspenseRow}
use Rattle.desk_history.specs.declared.operations.TakenFile.{TakenFile}
use Rattle.desk_book.specs.declared.row.Row.{Row}
use Rattle.desk_history.specs.declared.sent_entry.SentEntry.{SentEntry}
use Rattle.desk_book.specs.Book.{Book}
use Rattle.desk_history.specs.History.{with_company, with_limits}
use Rattle.desk_history.specs.Operator.{has_id}
use Rattle.desk_book.specs.Standing.{next_row, sent_row, lapsed_row, change_state}
use Rattle.desk_book.specs.declared.flat_rows.ChangedRow.{ChangedRow}
use Rattle.desk_book.specs.declared.flat_rows.FileRow.{FileRow}
use Rattle.desk_book.specs.declared.flat_rows.LapsedRow.{LapsedRow}
use Rattle.desk_book.specs.declared.flat_rows.ReturnedRow.{ReturnedRow}
use Rattle.desk_book.specs.declared.flat_rows.SentRow.{SentRow}

-- a write: the books on which the desk makes it, and what it makes of them
pub record Step : Type 1 where
  pub Admits : Book → Type 0
  pub after : Book → Book

-- the look-up with another value at one text
abbrev pub change_at : {A : Type 0} → (at : List ℕ) → (A → A) → (List ℕ → A) → (company : List ℕ) → A
change_at at change f c = if bytes_eq at c then change (f c) else f c

abbrev pub set_day : ℕ → Step
set_day d = record { Admits = λ _. ⊤; after = λ b. record b { day = Some d } }

abbrev pub set_holidays : List ℕ → Step
set_holidays days = record { Admits = λ _. ⊤; after = λ b. record b { holidays = days } }

-- a new company
abbrev pub put_company : Company → Step
put_company k = record {
  Admits = λ b. find (has_id k.id) b.companies ≡ None;
  after = λ b. record b { companies = with_company k b.companies };
}

abbrev pub put_limits : List ℕ → Limits → Step
put_limits id limits = record { Admits = λ _. ⊤; after = λ b. record b { companies = map (with_limits id limits) b.companies } }

-- a company's next submission or retry, held
abbrev pub add_submission : (company : List ℕ) → (order : ℕ) → Submission → Option Retry → Step
add_submission c order s retry = record {
  Admits = λ b. order ≡ length (b.rows c) + 1;
  after = λ b. record b { rows = change_at c (λ rs. rs ++ next_row rs s retry ∷ []) b.rows };
}

-- ---- a cut

-- what a cut writes
pub record CutWrite : Type 0 where
  pub sent : List SentRow
  pub lapsed : List LapsedRow
  pub entries : List SentEntry
  pub postings : List Posting
  pub files : List FileRow

abbrev pub if_order : ℕ → (Row → Row) → Row → Row
if_order order change row = if row.order == order then change row else row

-- one submission is sent
abbrev pub put_sent_row : Book → SentRow → Book
put_sent_row b s = record b {
  rows = change_at s.company (map (if_order s.order (sent_row s.settled))) b.rows;
  printed = λ c order. b.printed c order ++ (if bytes_eq s.company c && s.order == order then s.printed ∷ [] else []);
}

-- one retry lapses
abbrev pub put_lapsed_row : Book → LapsedRow → Book
put_lapsed_row b l = record b { rows = change_at l.company (map (if_order l.order lapsed_row)) b.rows }

abbrev pub put_postings : List Posting → Book → Book
put_postings ps b = record b { postings = b.postings ++ ps }

-- the file of a day that has this modifier
abbrev pub is_file : (day : ℕ) → (modifier : ℕ) → FileRow → Bool
is_file d modifier f = f.day == d && f.modifier == modifier

-- one file is kept; no file of the day has its modifier
abbrev pub put_file : Book → FileRow → Book
put_file b f = record b {
  file = λ d modifier. if f.day == d && f.modifier == modifier && is_none (b.file d modifier) then Some f.text else b.file d modifier;
  files_on = λ d. b.files_on d + (if f.day == d then 1 else 0);
}

abbrev pub put_entries : List SentEntry → Book → Book
put_entries es b = record b { sent = reverse es ++ b.sent }

-- an entry of a submission that is sent, as the book has that submission
pub record IsEntryOf (b : Book) (sent : List SentRow) (e : SentEntry) : Type 0 where
  pub row : Row
  pub stands : Contains (b.rows e.company) row
  pub content : (row.order ≡ e.order) × (row.content.reference ≡ e.reference) × (row.content.sec ≡ e.sec) × (is_debit row.content.direction ≡ e.debit)
  pub entry : Contains (enumerate_from 1 row.content.entries) (e.index, e.entry)
  pub sending : SentRow
  pub sends : Contains sent sending
  pub settles : (sending.company ≡ e.company) × (sending.order ≡ e.order) × (sending.settled ≡ e.settled)

abbrev pub commit_cut : CutWrite → Step
commit_cut x = record {
  Admits = λ b. All (IsEntryOf b x.sent) x.entries;
  after = λ b. fold put_file (put_postings x.postings (put_entries x.entries (fold put_lapsed_row (fold put_sent_row b x.sent) x.lapsed))) x.files;
}

-- ---- an intake

-- what an incoming file writes
pub record IntakeWrite : Type 0 where
  pub returned : List ReturnedRow
  pub changed : List ChangedRow
  pub suspense : List SuspenseRow
  pub postings : List Posting
  pub file : TakenFile

-- a sent entry is returned
abbrev pub returned_state_by : ReturnedRow → EntryState → EntryState
returned_state_by x (states.Sent on) = states.Returned on x.row.code x.row.day x.row.late
returned_state_by x s = s

abbrev pub returned_row_by : ReturnedRow → Row → Row
returned_row_by x row = change_state x.row.reference x.row.index (returned_state_by x) row

-- one entry is returned
abbrev pub put_return : Book → ReturnedRow → Book
put_return b x = record b {
  rows = change_at x.company (map (returned_row_by x)) b.rows;
  returns = change_at x.company (λ xs. xs ++ x.row ∷ []) b.returns;
}

abbrev pub put_change : Book → ChangedRow → Book
put_change b x = record b { changes = change_at x.company (λ xs. xs ++ x.row ∷ []) b.changes }

abbrev pub put_suspense : List SuspenseRow → Book → Book
put_suspense xs b = record b { suspense = b.suspense ++ xs }

-- one more file was taken; none before it has its key
abbrev pub put_taken_file : TakenFile → Book → Book
put_taken_file t b = record b { taken = λ key. if bytes_eq t.key key && is_none (b.taken key) then Some t else b.taken key }

-- an entry was sent of the company's submission with this order number and this reference
pub record WasSent (sent : List SentEntry) (company : List ℕ) (order : ℕ) (reference : List ℕ) : Type 0 where
  pub entry : SentEntry
  pub among : Contains sent entry
  pub names : (entry.company ≡ company) × (entry.order ≡ order) × (entry.reference ≡ reference)

-- returned and changed entries were sent
pub record NamesSent (sent : List SentEntry) (x : IntakeWrite) : Type 0 where
  pub returned : All (λ r. WasSent sent r.company r.order r.row.reference) x.returned
  pub changed : All (λ c. WasSent sent c.company c.order c.row.reference) x.changed

abbrev pub commit_intake : IntakeWrite → Step
commit_intake x = record {
  Admits = λ b. NamesSent b.sent x;
  after = λ b. put_taken_file x.file (put_postings x.postings (put_suspense x.suspense (fold put_change (fold put_return b x.returned) x.changed)));
}

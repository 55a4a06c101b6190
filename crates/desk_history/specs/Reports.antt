-- The reads of a company: a submission, its returns and changes, its statement, rates and exposure.
use Rattle.std.specs.Prelude.{ℕ, ◌-◌, ◌&&◌, nat_lt, nat_le, if◌then◌else◌, List, [], ◌∷◌, ◌++◌, map, filter, find, length, ℤ, Option, Some, None, option_map, option_and_then, slice_get, unwrap_or}
use Rattle.std.specs.List.{enumerate_from}
use Rattle.desk_accounts.specs.declared.posting.Cause.TheVariants as causes
use Rattle.desk_accounts.specs.Posting.{cut_cents, return_cents}
use Rattle.desk_accounts.specs.Sums.{sum_of}
use Rattle.desk_rules.specs.declared.bodies.company.Limits.{Limits}
use Rattle.desk_rules.specs.declared.rules.entry_fact.EntryFact.{EntryFact}
use Rattle.desk_rules.specs.declared.rules.entry_fact.EntryState.{EntryState}
use Rattle.desk_rules.specs.declared.bodies.submission.Entry.{Entry}
use Rattle.desk_rules.specs.declared.bodies.submission.Retry.{Retry}
use Rattle.desk_rules.specs.declared.bodies.submission.Submission.{Submission}
use Rattle.desk_rules.specs.Exposure.{credit_exposure, debit_exposure}
use Rattle.desk_rules.specs.LimitChecks.{is_debit}
use Rattle.desk_rules.specs.ReturnRates.{rates}
use Rattle.desk_rules.specs.Size.{total_of}
use Rattle.desk_history.specs.declared.reports.ChangeRow.{ChangeRow}
use Rattle.desk_history.specs.declared.reports.DayRates.{DayRates}
use Rattle.desk_history.specs.declared.reports.Exposure.{Exposure}
use Rattle.desk_history.specs.declared.reports.SubmissionReport.{SubmissionReport}
use Rattle.desk_history.specs.declared.reports.ReportedEntry.{ReportedEntry}
use Rattle.desk_history.specs.declared.reports.StatementLine.{StatementLine}
use Rattle.desk_history.specs.declared.reports.Receipt.{Receipt}
use Rattle.desk_history.specs.declared.reports.ReturnRow.{ReturnRow}
use Rattle.desk_history.specs.declared.reports.Statement.{Statement}
use Rattle.desk_history.specs.declared.reports.RetriedEntry.{RetriedEntry}
use Rattle.desk_history.specs.Part.{Event, CutMade, Returned, Changed, today}
use Rattle.desk_history.specs.State.{new_return}
use Rattle.desk_history.specs.Accepted.{AcceptedSubmission, is_called, settlement_day, is_sent_next, state_of}
use Rattle.desk_history.specs.Acceptance.{submissions}

-- ---- a submission

-- the receipt of a submission with this order number
abbrev pub receipt : Submission → ℕ → Receipt
receipt s order = record { cents = total_of s.entries; entries = length s.entries; order = order; reference = s.reference }

abbrev pub retried_entry : Retry → RetriedEntry
retried_entry r = record { of = r.of; index = r.index }

-- an entry with its number and its state
abbrev pub reported_entry : ℕ × (Entry × EntryState) → ReportedEntry
reported_entry x = record { cents = x.1.0.cents; index = x.0; state = x.1.1 }

-- a submission or retry with this order number, and the states of its entries
abbrev pub report : Submission → ℕ → Option Retry → List ReportedEntry → SubmissionReport
report s order retry entries = record {
  cents = total_of s.entries;
  day = s.day;
  direction = s.direction;
  entries = entries;
  retried = option_map retried_entry retry;
  order = order;
  reference = s.reference;
  sec = s.sec;
}

abbrev pub report_of : List Event → AcceptedSubmission → SubmissionReport
report_of P a = report a.content a.order a.retry (map (λ x. reported_entry (x.0, (x.1, state_of P a x.0))) (enumerate_from 1 a.content.entries))

-- the accepted submission or retry of a reference
abbrev pub submission_under : List Event → List ℕ → Option AcceptedSubmission
submission_under P reference = find (is_called reference) (submissions P)

abbrev pub submission_report : List Event → List ℕ → Option SubmissionReport
submission_report P reference = option_map (report_of P) (submission_under P reference)

-- ---- returns and changes

-- the day on which the submission of a reference settles
abbrev pub settlement_under : List Event → List ℕ → Option ℕ
settlement_under P reference = option_and_then (settlement_day P) (submission_under P reference)

-- a return that is taken after these events
abbrev pub return_row : List Event → (reference : List ℕ) → (index : ℕ) → (code : ℕ) → (information : List ℕ) → ReturnRow
return_row P reference index code information =
    let taken = new_return P code (settlement_under P reference) in
    record { code = code; day = taken.day; index = index; info = information; late = taken.late; reference = reference }

-- the returns, in the order in which they came
abbrev pub returns : List Event → List ReturnRow
returns [] = []
returns (Returned reference index code information ∷ P) = returns P ++ return_row P reference index code information ∷ []
returns (_ ∷ P) = returns P

-- the changes, in the order in which they came
abbrev pub changes : List Event → List ChangeRow
changes [] = []
changes (Changed reference index code text ∷ P) =
    changes P ++ record { code = code; day = today P; index = index; reference = reference; text = text } ∷ []
changes (_ ∷ P) = changes P

-- ---- the statement

-- A cut takes credits from the company's account and gives it debits; a return goes the other way.
abbrev pub cut_line : List Event → AcceptedSubmission → StatementLine
cut_line P a = record {
  cause = causes.Cut;
  cents = cut_cents (is_debit a.content.direction) (total_of a.content.entries);
  day = unwrap_or (settlement_day P a) 0;
  index = 0;
  reference = a.content.reference;
}

abbrev pub return_line : List Event → ℕ → AcceptedSubmission → Entry → StatementLine
return_line P index a e = record {
  cause = causes.Return;
  cents = return_cents (is_debit a.content.direction) e.cents;
  day = today P;
  index = index;
  reference = a.content.reference;
}

abbrev pub entry_line : List Event → ℕ → AcceptedSubmission → Option Entry → List StatementLine
entry_line P index a None = []
entry_line P index a (Some e) = if nat_lt 0 e.cents then return_line P index a e ∷ [] else []

-- the line of the return of an entry, if that moved money
abbrev pub submission_line : List Event → ℕ → Option AcceptedSubmission → List StatementLine
submission_line P index None = []
submission_line P index (Some a) = entry_line P index a (slice_get a.content.entries (index - 1))

-- the submissions with money that the cut that comes next sends, by order number
abbrev pub paying_submissions : List Event → List AcceptedSubmission
paying_submissions P = filter (λ a. is_sent_next P a && nat_lt 0 (total_of a.content.entries)) (submissions P)

-- the lines of the company's account: one for each submission with money that a cut sends, and one for
-- each return of a live entry
abbrev pub lines : List Event → List StatementLine
lines [] = []
lines (CutMade ∷ P) = lines P ++ map (cut_line (CutMade ∷ P)) (paying_submissions P)
lines (Returned reference index code information ∷ P) = lines P ++ submission_line P index (submission_under P reference)
lines (_ ∷ P) = lines P

-- the sum of the lines that count on a day: those valued on it or before it
abbrev pub balance : ℕ → List StatementLine → ℤ
balance day ls = sum_of (λ l. l.cents) (filter (λ l. nat_le l.day day) ls)

abbrev pub statement : List Event → ℕ → Statement
statement P day = record { balance = balance day (lines P); day = day; lines = lines P }

-- ---- rates and exposure

abbrev pub day_rates : List EntryFact → ℕ → DayRates
day_rates facts day = record { day = day; rates = rates facts day }

abbrev pub exposure : List EntryFact → (holidays : List ℕ) → Limits → ℕ → Exposure
exposure facts holidays limits day = record { credit = credit_exposure facts day; debit = debit_exposure facts day holidays; day = day; limits = limits }

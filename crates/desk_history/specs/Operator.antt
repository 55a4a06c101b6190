-- The answer to every message, and which lists of pairs are histories.
use Rattle.std.specs.Prelude.{◌≡◌, ℕ, Bool, true, nat_lt, List, [], ◌∷◌, length, find, Option, Some, None, option_map, is_none, Result, Ok, Err, bytes_eq}
use Rattle.bank_days.specs.Calendar.{is_banking}
use Rattle.bank_days.specs.declared.calendar_fault.CalendarFault.{CalendarFault}
use Rattle.desk_rules.specs.declared.bodies.company.Company.{Company}
use Rattle.desk_rules.specs.declared.bodies.draft.CompanyDraft.{CompanyDraft}
use Rattle.desk_rules.specs.declared.bodies.draft.LimitsDraft.{LimitsDraft}
use Rattle.desk_rules.specs.declared.refusals.refusal.Refusal as rules
use Rattle.desk_rules.specs.declared.refusals.refusal.Refusal.TheVariants.{NoDay, DayNotLater, NotBankingDay, CompanyExists, NoCompany}
use Rattle.desk_rules.specs.Chain.{◌>>=◌}
use Rattle.desk_rules.specs.Operator.{company_of, new_limits_of, desk_day_in}
use Rattle.desk_history.specs.declared.answer.Answer.{Answer}
use Rattle.desk_history.specs.declared.answer.Answer.TheVariants as answers
use Rattle.desk_history.specs.declared.answer.Outcome.{Outcome}
use Rattle.desk_history.specs.declared.answer.Outcome.TheVariants as done
use Rattle.desk_history.specs.declared.answer.CallRefusal.{CallRefusal}
use Rattle.desk_history.specs.declared.answer.CallRefusal.TheVariants.{BadCalendar}
use Rattle.desk_history.specs.declared.identity.Identity.{Identity}
use Rattle.desk_history.specs.declared.operations.CutSummary.{CutSummary}
use Rattle.desk_history.specs.declared.operations.Intake.{Intake}
use Rattle.desk_history.specs.Words.{some_or, holds_or}
use Rattle.desk_history.specs.Message.{Message, Of, SetDay, SetHolidays, PutCompany, PutLimits, Cut, TakeFile, FileText, Settlement, Suspense, Status, Companies, Pair, is_accepted}
use Rattle.desk_history.specs.Reply.{answer_of, reply}
use Rattle.desk_history.specs.History.{day, holidays, companies, part}
use Rattle.desk_history.specs.Files.{text_of, file_at}
use Rattle.desk_history.specs.Cutting.{cut}
use Rattle.desk_history.specs.Intake.{take_file, suspense}
use Rattle.desk_history.specs.Postings.{postings, settlement}
use Rattle.desk_history.specs.Status.{status}
use Rattle.desk_history.specs.Companies.{companies_outcome}

abbrev pub has_id : List ℕ → Company → Bool
has_id id k = bytes_eq k.id id

abbrev pub is_later : Option ℕ → (day : ℕ) → Bool
is_later None d = true
is_later (Some today) d = nat_lt today d

-- a new desk day is a banking day after the old one
abbrev pub set_day : List Pair → Option (List ℕ) → Result Outcome rules.Refusal
set_day H text = do
  d ← desk_day_in text
  _ ← holds_or DayNotLater (is_later (day H) d)
  _ ← holds_or NotBankingDay (is_banking (holidays H) d)
  Ok (done.Day d)

abbrev pub set_holidays : Result (List ℕ) CalendarFault → Answer
set_holidays (Ok days) = answers.Done (done.Holidays (length days))
set_holidays (Err fault) = answers.Refused (BadCalendar fault)

-- a company is registered once
abbrev pub put_company : List Pair → CompanyDraft → Result Outcome rules.Refusal
put_company H d = do
  k ← company_of d
  _ ← holds_or CompanyExists (is_none (find (has_id k.id) (companies H)))
  Ok (done.Company k.id)

abbrev pub put_limits : List Pair → LimitsDraft → Result Outcome rules.Refusal
put_limits H d = do
  x ← new_limits_of d
  _ ← some_or NoCompany (find (has_id x.0) (companies H))
  Ok (done.Company x.0)

abbrev pub cut_answer : Result CutSummary rules.Refusal → Answer
cut_answer (Ok made) = answers.Done (done.Cut made)
cut_answer (Err why) = answer_of (Err why)

abbrev pub intake_answer : Result Intake CallRefusal → Answer
intake_answer (Ok counts) = answers.Done (done.Taken counts)
intake_answer (Err why) = answers.Refused why

abbrev pub settlement_outcome : List ℕ → List Pair → Result Outcome rules.Refusal
settlement_outcome odfi H = do
  d ← some_or NoDay (day H)
  Ok (done.Settlement (settlement (postings odfi H) d))

-- the answer to a message after a history: to a company, that of its part alone
abbrev pub answer_to : Identity → List Pair → Message → Answer
answer_to identity H (Of c r) = reply (part identity.odfi H c) r
answer_to identity H (SetDay text) = answer_of (set_day H text)
answer_to identity H (SetHolidays days) = set_holidays days
answer_to identity H (PutCompany d) = answer_of (put_company H d)
answer_to identity H (PutLimits d) = answer_of (put_limits H d)
answer_to identity H Cut = cut_answer (cut identity.odfi H)
answer_to identity H (TakeFile file) = intake_answer (take_file identity.odfi H file)
answer_to identity H (FileText d modifier) = answers.Done (done.File (option_map (text_of identity) (file_at identity.odfi H d modifier)))
answer_to identity H Settlement = answer_of (settlement_outcome identity.odfi H)
answer_to identity H Suspense = answers.Done (done.Suspense (suspense identity.odfi H))
answer_to identity H Status = answers.Done (done.Status (status identity.odfi H))
answer_to identity H Companies = answer_of (companies_outcome identity.odfi H)

-- Each answer that accepts is the one after the pairs before it. Refusals change nothing, and are not bound.
abbrev pub IsHistory : Identity → List Pair → Type 0
IsHistory identity [] = Unit {0}
IsHistory identity (x ∷ H) = (is_accepted x.answer ≡ true → x.answer ≡ answer_to identity H x.message) × IsHistory identity H

-- the message with its answer after the history
abbrev pub next_pair : Identity → List Pair → Message → Pair
next_pair identity H m = record { message = m; answer = answer_to identity H m }

-- the history after messages, the oldest first
abbrev pub history_after : Identity → List Pair → List Message → List Pair
history_after identity H [] = H
history_after identity H (m ∷ ms) = history_after identity (next_pair identity H m ∷ H) ms

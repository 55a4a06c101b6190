-- The answers to the operator, from what the book has, and what the commands make of the book.
use Rattle.std.specs.Prelude.{ℕ, List, find, Option, is_none, Result, Ok, Err}
use Rattle.bank_days.specs.Calendar.{is_banking}
use Rattle.bank_days.specs.declared.calendar_fault.CalendarFault.{CalendarFault}
use Rattle.desk_rules.specs.declared.bodies.company.Company.{Company}
use Rattle.desk_rules.specs.declared.bodies.company.Limits.{Limits}
use Rattle.desk_rules.specs.declared.bodies.draft.CompanyDraft.{CompanyDraft}
use Rattle.desk_rules.specs.declared.bodies.draft.LimitsDraft.{LimitsDraft}
use Rattle.desk_rules.specs.declared.refusals.refusal.Refusal as rules
use Rattle.desk_rules.specs.declared.refusals.refusal.Refusal.TheVariants.{NoDay, DayNotLater, NotBankingDay, CompanyExists, NoCompany}
use Rattle.desk_rules.specs.Chain.{◌>>=◌}
use Rattle.desk_rules.specs.Operator.{company_of, new_limits_of, desk_day_in}
use Rattle.desk_history.specs.declared.answer.Answer.{Answer}
use Rattle.desk_history.specs.declared.answer.Answer.TheVariants as answers
use Rattle.desk_history.specs.declared.answer.Outcome.{Outcome}
use Rattle.desk_history.specs.declared.answer.Outcome.TheVariants as done
use Rattle.desk_book.specs.Book.{Book}
use Rattle.desk_history.specs.Operator.{has_id, is_later, set_holidays}
use Rattle.desk_history.specs.Postings.{settlement}
use Rattle.desk_history.specs.Reply.{answer_of}
use Rattle.desk_history.specs.Words.{some_or, holds_or}
use Rattle.desk_book.specs.Steps as steps
use Rattle.desk_book.specs.Steps.{Step}

-- ---- what a command sets, or why it is refused

-- a new desk day is a banking day after the old one
abbrev pub new_day : (day : Option ℕ) → (holidays : List ℕ) → (text : Option (List ℕ)) → Result ℕ rules.Refusal
new_day day holidays text = do
  d ← desk_day_in text
  _ ← holds_or DayNotLater (is_later day d)
  _ ← holds_or NotBankingDay (is_banking holidays d)
  Ok d

-- a company is registered once
abbrev pub new_company : List Company → CompanyDraft → Result Company rules.Refusal
new_company ks d = do
  k ← company_of d
  _ ← holds_or CompanyExists (is_none (find (has_id k.id) ks))
  Ok k

-- new limits are of a registered company
abbrev pub new_limits : List Company → LimitsDraft → Result (List ℕ × Limits) rules.Refusal
new_limits ks d = do
  x ← new_limits_of d
  _ ← some_or NoCompany (find (has_id x.0) ks)
  Ok x

-- the answer to a command that sets this
abbrev pub done_as : {A : Type 0} → (A → Outcome) → Result A rules.Refusal → Answer
done_as value (Ok x) = answers.Done (value x)
done_as value (Err why) = answer_of (Err why)

-- the book after a command that sets this; a refusal leaves it as it was
abbrev pub with_step : {A E : Type 0} → (A → Step) → Result A E → Book → Book
with_step step (Ok x) b = (step x).after b
with_step step (Err why) b = b

-- ---- the commands

abbrev pub day_answer : Option (List ℕ) → Book → Answer
day_answer text b = done_as done.Day (new_day b.day b.holidays text)

abbrev pub day_after : Option (List ℕ) → Book → Book
day_after text b = with_step steps.set_day (new_day b.day b.holidays text) b

abbrev pub holidays_answer : Result (List ℕ) CalendarFault → Book → Answer
holidays_answer days b = set_holidays days

abbrev pub holidays_after : Result (List ℕ) CalendarFault → Book → Book
holidays_after days b = with_step steps.set_holidays days b

abbrev pub company_answer : CompanyDraft → Book → Answer
company_answer d b = done_as (λ k. done.Company k.id) (new_company b.companies d)

abbrev pub company_after : CompanyDraft → Book → Book
company_after d b = with_step steps.put_company (new_company b.companies d) b

abbrev pub limits_answer : LimitsDraft → Book → Answer
limits_answer d b = done_as (λ x. done.Company x.0) (new_limits b.companies d)

abbrev pub limits_after : LimitsDraft → Book → Book
limits_after d b = with_step (λ x. steps.put_limits x.0 x.1) (new_limits b.companies d) b

-- ---- what the operator reads

abbrev pub file_answer : (day : ℕ) → (modifier : ℕ) → Book → Answer
file_answer d modifier b = answers.Done (done.File (b.file d modifier))

abbrev pub settlement_answer : Book → Answer
settlement_answer b = answer_of (do
  d ← some_or NoDay b.day
  Ok (done.Settlement (settlement b.postings d)))

abbrev pub suspense_answer : Book → Answer
suspense_answer b = answers.Done (done.Suspense b.suspense)

-- The effect of the operator's commands on the book.
use Rattle.std.proofs.Common.{◌≡◌, ℕ, List, ◌∷◌, Bool, refl, ap, ◌∙◌}
use Rattle.std.specs.Prelude.{Option, Some, None, Result, Ok, Err}
use Rattle.bank_days.specs.Calendar.{is_banking}
use Rattle.bank_days.specs.declared.calendar_fault.CalendarFault.{CalendarFault}
use Rattle.desk_rules.specs.declared.bodies.company.Company.{Company}
use Rattle.desk_rules.specs.declared.bodies.company.Limits.{Limits}
use Rattle.desk_rules.specs.declared.bodies.draft.CompanyDraft.{CompanyDraft}
use Rattle.desk_rules.specs.declared.bodies.draft.LimitsDraft.{LimitsDraft}
use Rattle.desk_rules.specs.declared.refusals.refusal.Field.TheVariants as field
use Rattle.desk_rules.specs.declared.refusals.refusal.Refusal as rules
use Rattle.desk_rules.specs.declared.refusals.refusal.Refusal.TheVariants.{DayNotLater, NotBankingDay}
use Rattle.desk_rules.specs.Chain.{◌>>=◌, good}
use Rattle.desk_rules.specs.Operator.{company_of, new_limits_of}
use Rattle.desk_history.specs.declared.answer.Outcome.TheVariants as done
use Rattle.desk_history.specs.declared.identity.Identity.{Identity}
use Rattle.desk_book.specs.Book.{book_of}
use Rattle.desk_history.specs.History.{day, holidays, companies, message_day}
use Rattle.desk_history.specs.Message.{SetDay, SetHolidays, PutCompany, PutLimits, Pair, is_accepted}
use Rattle.desk_history.specs.Operator.{is_later, next_pair, IsHistory}
use Rattle.desk_history.specs.Words.{holds_or}
use Rattle.desk_book.specs.Steps.{set_day, put_company, put_limits}
use Rattle.desk_book.specs.OnOperator.{new_day, new_company, new_limits, done_as, with_step, holidays_after}
use Rattle.desk_book.specs.BookLaws.{StepsOfMessages}
use Rattle.desk_book.specs.OperatorLaws.{StepsOfOperator}
use Rattle.desk_book.proofs.OperatorAnswers.{tells_operator}

-- ---- what passes its checks is what was read from the draft

pub passed : {A B : Type 0} (check : Result B rules.Refusal) (x y : A) → (check >>= (λ _. Ok x)) ≡ Ok y → x ≡ y
passed (Ok _) x y is = cc
passed (Err why) x y is = cc

pub passed_twice : {A B C : Type 0} (first : Result B rules.Refusal) (second : Result C rules.Refusal) (x y : A)
    → (first >>= (λ _. second >>= (λ _. Ok x))) ≡ Ok y → x ≡ y
passed_twice (Ok _) second x y is = passed second x y is
passed_twice (Err why) second x y is = cc

read_from : {A B : Type 0} (r : Result A rules.Refusal) (check : A → Result B rules.Refusal) (y : A)
    → (r >>= (λ x. check x >>= (λ _. Ok x))) ≡ Ok y → r ≡ Ok y
read_from (Ok x) check y is = ap Ok (passed (check x) x y is)
read_from (Err why) check y is = is

day_from : (o : Option ℕ) (is_later is_banking : ℕ → Bool) (d : ℕ)
    → (good field.Day 0 o >>= (λ d. holds_or DayNotLater (is_later d) >>= (λ _. holds_or NotBankingDay (is_banking d) >>= (λ _. Ok d)))) ≡ Ok d → o ≡ Some d
day_from (Some x) is_later is_banking d is = ap Some (passed_twice (holds_or DayNotLater (is_later x)) (holds_or NotBankingDay (is_banking x)) x d is)
day_from None is_later is_banking d is = cc

module _ (steps : StepsOfMessages) where
  day_step : (identity : Identity) (key : List ℕ) (H : List Pair) (text : Option (List ℕ)) (r : Result ℕ rules.Refusal) → new_day (day H) (holidays H) text ≡ r
      → book_of identity key (next_pair identity H (SetDay text) ∷ H) ≡ with_step set_day r (book_of identity key H)
  day_step identity key H text (Ok d) is =
      steps.day identity key H text d (ap is_accepted (tells_operator.day identity key H text ∙ ap (done_as done.Day) is)) (day_from (message_day (SetDay text)) (is_later (day H)) (is_banking (holidays H)) d is)
  day_step identity key H text (Err why) is =
      steps.refused identity key H (SetDay text) (ap is_accepted (tells_operator.day identity key H text ∙ ap (done_as done.Day) is)) (λ c r same. cc)

  holidays_step : (identity : Identity) (key : List ℕ) (H : List Pair) (days : Result (List ℕ) CalendarFault)
      → book_of identity key (next_pair identity H (SetHolidays days) ∷ H) ≡ holidays_after days (book_of identity key H)
  holidays_step identity key H (Ok days) = steps.holidays identity key H days
  holidays_step identity key H (Err fault) = steps.refused identity key H (SetHolidays (Err fault)) refl (λ c r same. cc)

  company_step : (identity : Identity) (key : List ℕ) (H : List Pair) (d : CompanyDraft) → IsHistory identity H
      → (r : Result Company rules.Refusal) → new_company (companies H) d ≡ r
      → book_of identity key (next_pair identity H (PutCompany d) ∷ H) ≡ with_step put_company r (book_of identity key H)
  company_step identity key H d history (Ok k) is =
      steps.company identity key H d history
      (ap is_accepted (tells_operator.company identity key H d ∙ ap (done_as (λ k. done.Company k.id)) is))
      k (read_from (company_of d) _ k is)
  company_step identity key H d history (Err why) is =
      steps.refused identity key H (PutCompany d)
      (ap is_accepted (tells_operator.company identity key H d ∙ ap (done_as (λ k. done.Company k.id)) is)) (λ c r same. cc)

  limits_step : (identity : Identity) (key : List ℕ) (H : List Pair) (d : LimitsDraft)
      → (r : Result (List ℕ × Limits) rules.Refusal) → new_limits (companies H) d ≡ r
      → book_of identity key (next_pair identity H (PutLimits d) ∷ H) ≡ with_step (λ x. put_limits x.0 x.1) r (book_of identity key H)
  limits_step identity key H d (Ok x) is =
      steps.limits identity key H d
      (ap is_accepted (tells_operator.limits identity key H d ∙ ap (done_as (λ x. done.Company x.0)) is))
      x (read_from (new_limits_of d) _ x is)
  limits_step identity key H d (Err why) is =
      steps.refused identity key H (PutLimits d)
      (ap is_accepted (tells_operator.limits identity key H d ∙ ap (done_as (λ x. done.Company x.0)) is)) (λ c r same. cc)

  pub steps_of_operator : StepsOfOperator
  steps_of_operator = record {
    day = λ identity key H text. day_step identity key H text (new_day (day H) (holidays H) text) refl;
    holidays = holidays_step;
    company = λ identity key H d history. company_step identity key H d history (new_company (companies H) d) refl;
    limits = λ identity key H d. limits_step identity key H d (new_limits (companies H) d) refl;
  }

-- Laws of the rules: what their definitions mean.
use Rattle.std.specs.Prelude.{◌≡◌, ◌↔◌, ◌≤◌, ◌+◌, ◌++◌, ◌∷◌, ℕ, Bool, true, false, IsTrue, List, All, Option, Some, None, Ok, Err}
use Rattle.bank_days.specs.Calendar.{AreHolidays, IsNthAfter}
use Rattle.desk_rules.specs.declared.refusals.refusal.Refusal.{Refusal}
use Rattle.desk_rules.specs.declared.bodies.submission.Retry.{Retry}
use Rattle.desk_rules.specs.declared.bodies.submission.Submission.{Submission}
use Rattle.desk_rules.specs.declared.rules.time_class.TimeClass.TheVariants.{TwoBankingDays, SixtyDays, Unlimited}
use Rattle.desk_rules.specs.Deadlines.{deadline, last_rule_day}
use Rattle.desk_rules.specs.Chain.{first_refusal}
use Rattle.desk_rules.specs.SameContent.{same_retry, same_submission}
use Rattle.desk_rules.specs.TimeClasses.{time_class_of}

-- the deadline is the day with exactly n banking days from the one after d to it
abbrev pub IsCounted : (last : Option ℕ) → (holidays : List ℕ) → (day : ℕ) → ℕ → Type 0
IsCounted last holidays d n = (e : ℕ) × (last ≡ Some e) × IsNthAfter holidays d n e

pub record CountedDeadlines : Type 0 where
  pub two_days : (code settled : ℕ) (holidays : List ℕ) → AreHolidays holidays → settled ≤ last_rule_day → time_class_of code ≡ TwoBankingDays → IsCounted (deadline code settled holidays) holidays settled 2
  pub sixty_days : (code settled : ℕ) (holidays : List ℕ) → AreHolidays holidays → settled ≤ last_rule_day → time_class_of code ≡ SixtyDays → IsCounted (deadline code settled holidays) holidays (settled + 60) 1
  pub unlimited : (code settled : ℕ) (holidays : List ℕ) → time_class_of code ≡ Unlimited → deadline code settled holidays ≡ None

-- no condition holds
abbrev pub NoneHolds : List (Bool × Refusal) → Type 0
NoneHolds rows = All (λ row. row.0 ≡ false) rows

-- the first row whose condition holds, with its refusal
pub record IsFirst (rows : List (Bool × Refusal)) (refusal : Refusal) : Type 0 where
  pub front : List (Bool × Refusal)
  pub rest : List (Bool × Refusal)
  pub rows_are : rows ≡ front ++ (true, refusal) ∷ rest
  pub before : NoneHolds front

pub record FirstRefusals : Type 0 where
  pub accepted : (rows : List (Bool × Refusal)) → first_refusal rows ≡ Ok tt → NoneHolds rows
  pub accepts : (rows : List (Bool × Refusal)) → NoneHolds rows → first_refusal rows ≡ Ok tt
  pub refused : (rows : List (Bool × Refusal)) (refusal : Refusal) → first_refusal rows ≡ Err refusal → IsFirst rows refusal
  pub refuses : (rows : List (Bool × Refusal)) (refusal : Refusal) → IsFirst rows refusal → first_refusal rows ≡ Err refusal

-- two retries name the same entry, for the same day and with the same authorization
pub record IsSameRetry (a b : Retry) : Type 0 where
  pub of : a.of ≡ b.of
  pub index : a.index ≡ b.index
  pub day : a.day ≡ b.day
  pub authorized : a.authorized ≡ b.authorized

pub record SameContents : Type 0 where
  pub submissions : (a b : Submission) → IsTrue (same_submission a b) ↔ (a ≡ b)
  pub retries : (a b : Retry) → IsTrue (same_retry a b) ↔ IsSameRetry a b

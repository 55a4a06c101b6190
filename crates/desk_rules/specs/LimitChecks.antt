-- A submission against the desk day and the company's limits: the desk's own rules.
use Rattle.std.specs.Prelude.{◌≡◌, ℕ, ◌+◌, Bool, true, false, not, ◌&&◌, nat_lt, nat_le, List, [], ◌∷◌, Result}
use Rattle.std.specs.List.{list_any}
use Rattle.desk_rules.specs.declared.bodies.company.Limits.{Limits}
use Rattle.desk_rules.specs.declared.rules.entry_fact.EntryFact.{EntryFact}
use Rattle.desk_rules.specs.declared.refusals.refusal.Refusal.{Refusal}
use Rattle.desk_rules.specs.declared.refusals.refusal.Refusal.TheVariants.{DateRange, EntryLimit, CreditLimit, DebitLimit}
use Rattle.desk_rules.specs.declared.bodies.submission.Submission.{Submission}
use Rattle.desk_rules.specs.declared.bodies.submission.Direction.{Direction}
use Rattle.desk_rules.specs.declared.bodies.submission.Direction.TheVariants.{Credit, Debit}
use Rattle.desk_rules.specs.Exposure.{credit_exposure, debit_exposure}
use Rattle.desk_rules.specs.Chain.{first_refusal}
use Rattle.desk_rules.specs.Size.{total_of}

-- 1 to 60 days after the desk day
abbrev pub is_date_in_range : (asked : ℕ) → (day : ℕ) → Bool
is_date_in_range asked day = nat_lt day asked && nat_le asked (day + 60)

abbrev pub is_debit : Direction → Bool
is_debit Credit = false
is_debit Debit = true

-- the refusals of a submission in their order, each with its condition
abbrev pub limit_rows : Submission → (day : ℕ) → Limits → List EntryFact → (holidays : List ℕ) → List (Bool × Refusal)
limit_rows s day limits facts holidays =
    (not (is_date_in_range s.day day), DateRange)
    ∷ (list_any (λ e. nat_lt limits.entry e.cents) s.entries, EntryLimit)
    ∷ (not (is_debit s.direction) && nat_lt limits.credit (credit_exposure facts day + total_of s.entries), CreditLimit)
    ∷ (is_debit s.direction && nat_lt limits.debit (debit_exposure facts day holidays + total_of s.entries), DebitLimit)
    ∷ []

-- the first refusal of a submission, if there is one
abbrev pub limits_verdict : Submission → (day : ℕ) → Limits → List EntryFact → (holidays : List ℕ) → Result (Unit {0}) Refusal
limits_verdict s day limits facts holidays = first_refusal (limit_rows s day limits facts holidays)

-- the verdict by any facts and holidays that come to these exposures: the credit exposure, then the debit exposure
abbrev pub IsVerdictByExposures : Submission → (day : ℕ) → Limits → (exposed : ℕ × ℕ) → Result (Unit {0}) Refusal
    → Type 0
IsVerdictByExposures s day limits exposed verdict = (facts : List EntryFact) (holidays : List ℕ)
    → exposed ≡ (credit_exposure facts day, debit_exposure facts day holidays)
    → verdict ≡ limits_verdict s day limits facts holidays

-- The exposures and the rates are read off the open sums.
use Rattle.std.proofs.Common.{◌≡◌, ◌∙◌, refl, ap, sym, ℕ, ◌+◌, Bool, true, false, List, [], ◌∷◌, arith}
use Rattle.std.specs.Prelude.{filter, sum_by, count_by, not, ◌&&◌, if◌then◌else◌}
use Rattle.std.proofs.lemmas.List.Sums.{sum_by-cons}
use Rattle.desk_rules.specs.declared.rules.entry_fact.EntryFact.{EntryFact}
use Rattle.desk_rules.specs.declared.rules.entry_fact.EntryState.{EntryState}
use Rattle.desk_rules.specs.declared.rules.entry_fact.EntryState.TheVariants.{Held, Sent, Returned, Lapsed}
use Rattle.desk_rules.specs.declared.rules.rate.Level.{Level}
use Rattle.desk_rules.specs.declared.rules.rate.Level.TheVariants.{Unauthorized, Administrative, Overall}
use Rattle.desk_rules.specs.Exposure.{is_open_credit, is_open_debit, credit_exposure, debit_exposure}
use Rattle.desk_rules.specs.ReturnRates.{is_live_debit, is_of_level, has_settled, was_returned, exceeds, settled_count, returned_count, rate_of}
use Rattle.remembering_store.specs.OpenSums.{is_held, settles_on, stands_on, came_back_on, held_credits, held_debits, credits_on, debits_on, settled_on, returned_on, from_day, comes_back_by, in_window, rate_read}
use Rattle.remembering_store.specs.Laws.{facts_of, ExposuresReadOff, RatesReadOff}

-- ---- sums of sums

-- where a number is the sum of two, at each of a list, so are the sums
pub added_up : {X : Type 0} (f g h : X → ℕ) → ((x : X) → f x ≡ g x + h x) → (xs : List X) → sum_by f xs ≡ sum_by g xs + sum_by h xs
added_up f g h each [] = refl
added_up f g h each (x ∷ xs) =
    let here = each x in
    let rest = added_up f g h each xs in
    let a = sum_by-cons f x xs in
    let b = sum_by-cons g x xs in
    let c = sum_by-cons h x xs in
    omega (arith, here, rest, a, b, c)

-- what passes counts, and all else is nothing
pub filtered : {X : Type 0} (f : X → ℕ) (p : X → Bool) (xs : List X) → sum_by f (filter p xs) ≡ sum_by (λ x. if p x then f x else 0) xs
filtered f p [] = refl
filtered {X} f p (x ∷ xs) = by (filtered f p xs) (p x) ∙ sym (sum_by-cons (λ (y : X). if p y then f y else 0) x xs) where
  by : sum_by f (filter p xs) ≡ sum_by (λ y. if p y then f y else 0) xs
      → (t : Bool) → sum_by f (if t then x ∷ filter p xs else filter p xs) ≡ (if t then f x else 0) + sum_by (λ y. if p y then f y else 0) xs
  by rest true = sum_by-cons f x (filter p xs) ∙ ap (λ (n : ℕ). f x + n) rest
  by rest false = omega (arith, rest)

-- ---- exposures

credit_parts : (day : ℕ) (debit : Bool) (cents : ℕ) (s : EntryState)
    → (if not debit && is_open_credit s day then cents else 0)
    ≡ (if not debit && is_held s then cents else 0) + (if not debit && settles_on (from_day day) s then cents else 0)
credit_parts day true cents s = refl
credit_parts day false cents Held = omega arith
credit_parts day false cents (Sent settled) = omega arith
credit_parts day false cents (Returned settled code taken late) = omega arith
credit_parts day false cents Lapsed = refl

debit_parts : (day : ℕ) (holidays : List ℕ) (debit : Bool) (cents : ℕ) (s : EntryState)
    → (if debit && is_open_debit s day holidays then cents else 0)
    ≡ (if debit && is_held s then cents else 0) + (if debit && stands_on (comes_back_by day holidays) s then cents else 0)
debit_parts day holidays false cents s = refl
debit_parts day holidays true cents Held = omega arith
debit_parts day holidays true cents (Sent settled) = omega arith
debit_parts day holidays true cents (Returned settled code taken late) = refl
debit_parts day holidays true cents Lapsed = refl

pub credit_read : (facts : List EntryFact) (day : ℕ) → credit_exposure facts day ≡ held_credits facts + credits_on (from_day day) facts
credit_read facts day =
    filtered (λ f. f.cents) (λ f. not f.debit && is_open_credit f.state day) facts
    ∙ added_up _ _ _ (λ f. credit_parts day f.debit f.cents f.state) facts

pub debit_read : (facts : List EntryFact) (day : ℕ) (holidays : List ℕ) → debit_exposure facts day holidays ≡ held_debits facts + debits_on (comes_back_by day holidays) facts
debit_read facts day holidays =
    filtered (λ f. f.cents) (λ f. f.debit && is_open_debit f.state day holidays) facts
    ∙ added_up _ _ _ (λ f. debit_parts day holidays f.debit f.cents f.state) facts

pub exposures_read_off : ExposuresReadOff
exposures_read_off b c day i = (credit_read (facts_of c b) day i, debit_read (facts_of c b) day b.holidays i)

-- ---- rates

same_settled : (day : ℕ) (s : EntryState) → has_settled s day ≡ settles_on (in_window day) s
same_settled day Held = refl
same_settled day (Sent settled) = refl
same_settled day (Returned settled code taken late) = refl
same_settled day Lapsed = refl

same_returned : (level : Level) (day : ℕ) (s : EntryState) → was_returned level s day ≡ came_back_on (in_window day) (is_of_level level) s
same_returned level day Held = refl
same_returned level day (Sent settled) = refl
same_returned level day (Returned settled code taken late) = refl
same_returned level day Lapsed = refl

settled_read : (facts : List EntryFact) (day : ℕ) → settled_count facts day ≡ settled_on (in_window day) facts
settled_read facts day i = count_by (λ (f : EntryFact). is_live_debit f && same_settled day f.state i) facts

returned_read : (level : Level) (facts : List EntryFact) (day : ℕ) → returned_count level facts day ≡ returned_on (in_window day) (is_of_level level) facts
returned_read level facts day i = count_by (λ (f : EntryFact). is_live_debit f && same_returned level day f.state i) facts

rate_same : (level : Level) (facts : List EntryFact) (day : ℕ) → rate_of level facts day ≡ rate_read level facts day
rate_same level facts day i = record {
  n = returned_read level facts day i;
  d = settled_read facts day i;
  over = exceeds level (returned_read level facts day i) (settled_read facts day i);
}

pub rates_read_off : RatesReadOff
rates_read_off b c day i = record {
  unauthorized = rate_same Unauthorized (facts_of c b) day i;
  administrative = rate_same Administrative (facts_of c b) day i;
  overall = rate_same Overall (facts_of c b) day i;
}

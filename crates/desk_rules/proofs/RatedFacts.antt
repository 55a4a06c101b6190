-- The facts that are rated have the rates of all facts.
use Rattle.std.proofs.Common.{◌≡◌, ◌∙◌, ap, refl, sym, ℕ, ◌+◌, Bool, true, false, List, [], ◌∷◌, cond, inl, inr, arith, ◌&&◌, ◌||◌, count_by, filter, if◌then◌else◌}
use Rattle.std.proofs.lemmas.Bool.{cases_Bool}
use Rattle.std.proofs.lemmas.List.Sums.{sum_by-cons}
use Rattle.desk_rules.specs.declared.rules.entry_fact.EntryFact.{EntryFact}
use Rattle.desk_rules.specs.declared.rules.entry_fact.EntryState.{EntryState}
use Rattle.desk_rules.specs.declared.rules.entry_fact.EntryState.TheVariants.{Held, Sent, Returned, Lapsed}
use Rattle.desk_rules.specs.declared.rules.rate.Level.{Level}
use Rattle.desk_rules.specs.declared.rules.rate.Level.TheVariants.{Unauthorized, Administrative, Overall}
use Rattle.desk_rules.specs.declared.rules.rate.Rate.{Rate}
use Rattle.desk_rules.specs.declared.rules.rate.Rates.{Rates}
use Rattle.desk_rules.specs.RatedFacts.{is_rated, RatedFactsSuffice}
use Rattle.desk_rules.specs.ReturnRates.{exceeds, has_settled, is_in_window, is_live_debit, is_of_level, rate_of, returned_count, settled_count, was_returned}

none_more : (n : ℕ) → n ≡ 0 + n
none_more n = omega arith

-- what is not rated is not counted
module _ (day : ℕ) (p : EntryFact → Bool) (outside : (f : EntryFact) → is_rated day f ≡ false → p f ≡ false) where
  abbrev one : EntryFact → ℕ
  one f = if p f then 1 else 0

  same_count : (facts : List EntryFact) → count_by p (filter (is_rated day) facts) ≡ count_by p facts
  same_count [] = refl
  same_count (f ∷ facts) =
      let rest = filter (is_rated day) facts in
      elim (cases_Bool (is_rated day f)) [
        | inl rated ↦
            ap (λ (t : Bool). count_by p (cond t (f ∷ rest) rest)) rated
            ∙ sum_by-cons one f rest
            ∙ ap (λ (n : ℕ). one f + n) (same_count facts)
            ∙ sym (sum_by-cons one f facts)
        | inr other ↦
            ap (λ (t : Bool). count_by p (cond t (f ∷ rest) rest)) other
            ∙ same_count facts
            ∙ none_more (count_by p facts)
            ∙ ap (λ (t : Bool). cond t 1 0 + count_by p facts) (sym (outside f other))
            ∙ sym (sum_by-cons one f facts)
      ]

-- a part of what does not hold
settled_part : (live settled returned : Bool) → (live && (settled || returned)) ≡ false → (live && settled) ≡ false
settled_part false settled returned none = refl
settled_part true true returned none = none
settled_part true false returned none = refl

returned_part : (live settled returned : Bool) → (live && (settled || returned)) ≡ false → (live && returned) ≡ false
returned_part false settled returned none = refl
returned_part true true returned none = absurd (cc)
returned_part true false returned none = none

-- what has a code of a level has one of any
fewer : (live window of : Bool) → (live && (window && true)) ≡ false → (live && (window && of)) ≡ false
fewer false window of none = refl
fewer true false of none = refl
fewer true true of none = absurd (cc)

of_level : (level : Level) (live : Bool) (s : EntryState) (day : ℕ) → (live && was_returned Overall s day) ≡ false → (live && was_returned level s day) ≡ false
of_level level live Held day none = none
of_level level live (Sent settled) day none = none
of_level level live (Returned settled code taken late) day none = fewer live (is_in_window taken day) (is_of_level level code) none
of_level level live Lapsed day none = none

same_settled : (facts : List EntryFact) (day : ℕ) → settled_count (filter (is_rated day) facts) day ≡ settled_count facts day
same_settled facts day = same_count day (λ f. is_live_debit f && has_settled f.state day)
    (λ f none. settled_part (is_live_debit f) (has_settled f.state day) (was_returned Overall f.state day) none) facts

same_returned : (level : Level) (facts : List EntryFact) (day : ℕ) → returned_count level (filter (is_rated day) facts) day ≡ returned_count level facts day
same_returned level facts day = same_count day (λ f. is_live_debit f && was_returned level f.state day)
    (λ f none. of_level level (is_live_debit f) f.state day (returned_part (is_live_debit f) (has_settled f.state day) (was_returned Overall f.state day) none)) facts

abbrev rate_with : Level → (n : ℕ) → (d : ℕ) → Rate
rate_with level n d = record { n = n; d = d; over = exceeds level n d }

abbrev rates_with : Rate → Rate → Rate → Rates
rates_with u a o = record { unauthorized = u; administrative = a; overall = o }

same_rate : (level : Level) (facts : List EntryFact) (day : ℕ) → rate_of level (filter (is_rated day) facts) day ≡ rate_of level facts day
same_rate level facts day =
    ap (λ (n : ℕ). rate_with level n (settled_count (filter (is_rated day) facts) day)) (same_returned level facts day)
    ∙ ap (λ (d : ℕ). rate_with level (returned_count level facts day) d) (same_settled facts day)

pub rated_facts_suffice : RatedFactsSuffice
rated_facts_suffice facts day =
    let rated = filter (is_rated day) facts in
    ap (λ (r : Rate). rates_with r (rate_of Administrative rated day) (rate_of Overall rated day)) (same_rate Unauthorized facts day)
    ∙ ap (λ (r : Rate). rates_with (rate_of Unauthorized facts day) r (rate_of Overall rated day)) (same_rate Administrative facts day)
    ∙ ap (λ (r : Rate). rates_with (rate_of Unauthorized facts day) (rate_of Administrative facts day) r) (same_rate Overall facts day)

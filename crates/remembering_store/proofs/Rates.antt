-- What leaves a company's return rates as they are.
use Rattle.std.proofs.Common.{◌≡◌, ◌∙◌, refl, ap, sym, subst, ℕ, ◌<◌, Bool, false, List, [], ◌∷◌, ◌++◌, map, Option, Some, None, arith}
use Rattle.std.specs.Prelude.{count_by, ◌-◌, ◌&&◌, if◌then◌else◌, nat_le, IfSome}
use Rattle.std.specs.List.{AllByRecursion}
use Rattle.std.proofs.lemmas.Bool.{lt-leb}
use Rattle.std.proofs.lemmas.List.{append-nil}
use Rattle.std.proofs.lemmas.List.Sums.{sum_by-append}
use Rattle.std.proofs.lemmas.List.Concat.{flat_map-append}
use Rattle.desk_rules.specs.declared.bodies.submission.Retry.{Retry}
use Rattle.desk_rules.specs.declared.bodies.submission.Submission.{Submission}
use Rattle.desk_rules.specs.declared.rules.entry_fact.EntryFact.{EntryFact}
use Rattle.desk_rules.specs.declared.rules.entry_fact.EntryState.{EntryState}
use Rattle.desk_rules.specs.declared.rules.entry_fact.EntryState.TheVariants.{Held, Sent, Returned, Lapsed}
use Rattle.desk_rules.specs.declared.rules.rate.Level.{Level}
use Rattle.desk_rules.specs.declared.rules.rate.Level.TheVariants.{Unauthorized, Administrative, Overall}
use Rattle.desk_rules.specs.LimitChecks.{is_debit}
use Rattle.desk_rules.specs.ReturnRates.{is_in_window, is_live_debit, has_settled, was_returned, exceeds, settled_count, returned_count, rate_of, rates}
use Rattle.desk_history.specs.declared.reports.DayRates.{DayRates}
use Rattle.desk_book.specs.declared.row.Row.{Row}
use Rattle.desk_book.specs.Standing.{row_facts, facts_in, sent_row, lapsed_row, next_row}
use Rattle.desk_book.specs.Steps.{if_order}
use Rattle.remembering_store.specs.KnownCompany.{AreRatesOf}
use Rattle.remembering_store.specs.KnownRow.{KnownRow, place_of}
use Rattle.remembering_store.specs.Laws.{HaveChanged, in_state, rows_at}
use Rattle.remembering_store.specs.OpenRows.{IsHeldIn}
use Rattle.remembering_store.specs.Remembered.{AreRows, AreHeld}
use Rattle.remembering_store.specs.declared.sums.open_rows.OpenRows.{OpenRows}
use Rattle.remembering_store.proofs.Adding.{new_held}
use Rattle.remembering_store.proofs.Changed.{sent_in, lapsed_in}
use Rattle.remembering_store.proofs.Following.{stands_at, one_row, turned}
use Rattle.remembering_store.proofs.Weights.{alike_each, and_not, each_map, nothing}

-- ---- held entries

held_state : (s : EntryState) → place_of s ≡ Some None → s ≡ Held
held_state Held is = refl
held_state (Sent settled) is = absurd cc
held_state (Returned settled code taken late) is = absurd cc
held_state Lapsed is = absurd cc

-- a submission that is kept as held is held in the book
pub held_at : (since n : ℕ) (debit : Bool) (cents : ℕ) (m : OpenRows) (k : KnownRow) (rs : List Row) → IsHeldIn n debit cents m k → AreRows since m rs → AreHeld n rs
held_at since n debit cents m k rs found are =
    let there = stands_at since n m k rs are found.stands in
    subst (λ (fs : List EntryFact). AllByRecursion (λ f. f.state ≡ Held) fs) (sym (one_row n rs there.row there.is))
    (each_map (λ f. place_of f.state ≡ Some k.settled) (λ f. f.state ≡ Held) (λ f e. held_state f.state (e ∙ ap Some found.held)) (row_facts there.row) there.fits.stands)

-- ---- counts

-- nothing is counted
none_counted : (p : EntryFact → Bool) (fs : List EntryFact) → AllByRecursion (λ f. p f ≡ false) fs → count_by p fs ≡ 0
none_counted p fs none =
    alike_each (λ f. if p f then 1 else 0) (λ f. 0) fs (each_map (λ f. p f ≡ false) (λ f. (if p f then 1 else 0) ≡ 0) (λ f no. ap (λ (t : Bool). if t then 1 else 0) no) fs none) ∙ nothing fs

all_not : (p : EntryFact → Bool) → ((f : EntryFact) → p f ≡ false) → (fs : List EntryFact) → AllByRecursion (λ f. p f ≡ false) fs
all_not p none [] = tt
all_not p none (f ∷ fs) = (none f, all_not p none fs)

-- entries change that are counted neither before nor after
count_changed : (p : EntryFact → Bool) (change : EntryFact → EntryFact) (changed before after : List EntryFact) → HaveChanged change changed before after
    → AllByRecursion (λ f. p f ≡ false) changed → ((f : EntryFact) → p (change f) ≡ false) → count_by p after ≡ count_by p before
count_changed p change changed before after is was will =
    let a = is (λ f. if p f then 1 else 0) in
    let b = none_counted p changed was in
    let c = none_counted (λ f. p (change f)) changed (all_not (λ f. p (change f)) will changed) in
    omega (arith, a, b, c)

-- entries are added that are not counted
count_added : (p : EntryFact → Bool) (before more : List EntryFact) → AllByRecursion (λ f. p f ≡ false) more → count_by p (before ++ more) ≡ count_by p before
count_added p before more none =
    let a = sum_by-append (λ f. if p f then 1 else 0) before more in
    let b = none_counted p more none in
    omega (arith, a, b)

-- ---- rates

module _ (before after : List EntryFact) (day : ℕ) (settled : settled_count after day ≡ settled_count before day)
    (returned : (level : Level) → returned_count level after day ≡ returned_count level before day)
  where
    rate_same : (level : Level) → rate_of level after day ≡ rate_of level before day
    rate_same level i = record { n = returned level i; d = settled i; over = exceeds level (returned level i) (settled i) }

    rates_same : rates after day ≡ rates before day
    rates_same i = record { unauthorized = rate_same Unauthorized i; administrative = rate_same Administrative i; overall = rate_same Overall i }

held_not_settled : (day : ℕ) (f : EntryFact) → f.state ≡ Held → (is_live_debit f && has_settled f.state day) ≡ false
held_not_settled day f held = ap (λ (s : EntryState). is_live_debit f && has_settled s day) held ∙ and_not (is_live_debit f)

held_not_returned : (level : Level) (day : ℕ) (f : EntryFact) → f.state ≡ Held → (is_live_debit f && was_returned level f.state day) ≡ false
held_not_returned level day f held = ap (λ (s : EntryState). is_live_debit f && was_returned level s day) held ∙ and_not (is_live_debit f)

-- held entries come into a state that is not counted
module _ (day : ℕ) (state : EntryState) (unsettled : has_settled state day ≡ false) (unreturned : (level : Level) → was_returned level state day ≡ false) where
  rates_changed : (changed before after : List EntryFact) → HaveChanged (in_state (λ was. state)) changed before after
      → AllByRecursion (λ f. f.state ≡ Held) changed → rates after day ≡ rates before day
  rates_changed changed before after is held =
      rates_same before after day
      (count_changed (λ f. is_live_debit f && has_settled f.state day) (in_state (λ was. state)) changed before after is
      (each_map (λ f. f.state ≡ Held) (λ f. (is_live_debit f && has_settled f.state day) ≡ false) (held_not_settled day) changed held)
      (λ f. ap (λ (t : Bool). is_live_debit f && t) unsettled ∙ and_not (is_live_debit f)))
      (λ level. count_changed (λ f. is_live_debit f && was_returned level f.state day) (in_state (λ was. state)) changed before after is
      (each_map (λ f. f.state ≡ Held) (λ f. (is_live_debit f && was_returned level f.state day) ≡ false) (held_not_returned level day) changed held)
      (λ f. ap (λ (t : Bool). is_live_debit f && t) (unreturned level) ∙ and_not (is_live_debit f)))

-- held entries are added
rates_added : (day : ℕ) (before more : List EntryFact) → AllByRecursion (λ f. f.state ≡ Held) more → rates (before ++ more) day ≡ rates before day
rates_added day before more held =
    rates_same before (before ++ more) day
    (count_added (λ f. is_live_debit f && has_settled f.state day) before more
    (each_map (λ f. f.state ≡ Held) (λ f. (is_live_debit f && has_settled f.state day) ≡ false) (held_not_settled day) more held))
    (λ level. count_added (λ f. is_live_debit f && was_returned level f.state day) before more
    (each_map (λ f. f.state ≡ Held) (λ f. (is_live_debit f && was_returned level f.state day) ≡ false) (held_not_returned level day) more held))

-- ---- a company's rates

-- what settles after a day is not in the window that ends on it
after_window : (on day : ℕ) → day < on → is_in_window on day ≡ false
after_window on day late = ap (λ (t : Bool). nat_le (day - 59) on && t) (lt-leb on day late) ∙ and_not (nat_le (day - 59) on)

sent_stay : (n on : ℕ) (rs : List Row) → AreHeld n rs → (x : DayRates) → x.day < on → AreRatesOf rs x → AreRatesOf (map (if_order n (sent_row on)) rs) x
sent_stay n on rs held x late is =
    is ∙ sym (rates_changed x.day (Sent on) (after_window on x.day late) (λ level. refl) (facts_in (rows_at n rs)) (facts_in rs) (facts_in (map (if_order n (sent_row on)) rs)) (sent_in n on rs) held)

lapsed_stay : (n : ℕ) (rs : List Row) → AreHeld n rs → (x : DayRates) → AreRatesOf rs x → AreRatesOf (map (if_order n lapsed_row) rs) x
lapsed_stay n rs held x is =
    is ∙ sym (rates_changed x.day Lapsed refl (λ level. refl) (facts_in (rows_at n rs)) (facts_in rs) (facts_in (map (if_order n lapsed_row) rs)) (lapsed_in n rs) held)

added_stay : (rs : List Row) (s : Submission) (retry : Option Retry) (x : DayRates) → AreRatesOf rs x → AreRatesOf (rs ++ next_row rs s retry ∷ []) x
added_stay rs s retry x is = is ∙ sym (ap (λ (fs : List EntryFact). rates fs x.day) facts ∙ rates_added x.day (facts_in rs) (row_facts row) held) where
  row : Row
  row = next_row rs s retry

  facts : facts_in (rs ++ row ∷ []) ≡ facts_in rs ++ row_facts row
  facts = flat_map-append row_facts rs (row ∷ []) ∙ ap (λ (fs : List EntryFact). facts_in rs ++ fs) (append-nil (row_facts row))

  held : AllByRecursion (λ f. f.state ≡ Held) (row_facts row)
  held = each_map (λ f. place_of f.state ≡ Some None) (λ f. f.state ≡ Held) (λ f e. held_state f.state e) (row_facts row) (new_held (is_debit s.direction) s.entries)

-- ---- what is remembered of them

-- the rates of a day before a cut's settlement day
pub sent_rates : (n on : ℕ) (rs : List Row) (was now : Option DayRates) → IfSome now (λ x. (was ≡ Some x) × (x.day < on)) → AreHeld n rs
    → IfSome was (AreRatesOf rs) → IfSome now (AreRatesOf (map (if_order n (sent_row on)) rs))
sent_rates n on rs was None kept held are = tt
sent_rates n on rs was (Some x) kept held are = sent_stay n on rs held x kept.1 (subst (λ (o : Option DayRates). IfSome o (AreRatesOf rs)) kept.0 are)

pub lapsed_rates : (n : ℕ) (rs : List Row) (known : Option DayRates) → AreHeld n rs → IfSome known (AreRatesOf rs) → IfSome known (AreRatesOf (map (if_order n lapsed_row) rs))
lapsed_rates n rs known held = turned (AreRatesOf rs) (AreRatesOf (map (if_order n lapsed_row) rs)) (lapsed_stay n rs held) known

pub added_rates : (rs : List Row) (s : Submission) (retry : Option Retry) (known : Option DayRates) → IfSome known (AreRatesOf rs) → IfSome known (AreRatesOf (rs ++ next_row rs s retry ∷ []))
added_rates rs s retry = turned (AreRatesOf rs) (AreRatesOf (rs ++ next_row rs s retry ∷ [])) (added_stay rs s retry)

-- those of their own day
pub rates_on : (known : Option DayRates) (x : DayRates) (today : ℕ) (rs : List Row) → known ≡ Some x → x.day ≡ today → IfSome known (AreRatesOf rs) → x.rates ≡ rates (facts_in rs) today
rates_on known x today rs is day are = subst (λ (o : Option DayRates). IfSome o (AreRatesOf rs)) is are ∙ ap (rates (facts_in rs)) day

-- The rows that still count have the exposures of all rows.
use Rattle.std.proofs.Common.{◌≡◌, ℕ, ◌+◌, ◌<◌, ◌≤◌, List, [], ◌∷◌, ◌++◌, map, Bool, false, cond, refl, sym, ap, ◌∙◌, inl, inr, arith}
use Rattle.std.specs.Prelude.{◌&&◌, filter, sum_by, zip, nat_le, not}
use Rattle.std.specs.List.{list_any}
use Rattle.std.proofs.lemmas.Bool.{cases_Bool, and_right, or_parts, leb-false, lt-leb}
use Rattle.std.proofs.lemmas.List.Elements.{filter-append}
use Rattle.std.proofs.lemmas.List.Sums.{sum_by-append}
use Rattle.bank_days.specs.Calendar.{AreHolidays, nth_after}
use Rattle.bank_days.specs.Day.{last_argument_day}
use Rattle.bank_days.specs.Laws.{NthBankingDays}
use Rattle.desk_rules.specs.Deadlines.{last_rule_day}
use Rattle.desk_rules.specs.declared.rules.entry_fact.EntryFact.{EntryFact}
use Rattle.desk_rules.specs.declared.rules.entry_fact.EntryState.{EntryState}
use Rattle.desk_rules.specs.declared.rules.entry_fact.EntryState.TheVariants.{Held, Sent, Returned, Lapsed}
use Rattle.desk_rules.specs.declared.bodies.submission.Entry.{Entry}
use Rattle.desk_rules.specs.Exposure.{is_open_credit, is_open_debit, credit_exposure, debit_exposure}
use Rattle.desk_history.specs.Facts.{entry_fact}
use Rattle.desk_book.specs.declared.row.Row.{Row}
use Rattle.desk_book.specs.Standing.{row_facts, facts_in}
use Rattle.desk_book.specs.OpenRows.{is_open_row, open_rows, IsPast, OpenRowsSuffice}

-- of facts that pass a test, which none passes whose state is past
module _ (since : ℕ) (p : EntryFact → Bool) (never : (f : EntryFact) → is_open_credit f.state since ≡ false → p f ≡ false) where
  abbrev total : List EntryFact → ℕ
  total fs = sum_by (λ f. f.cents) (filter p fs)

  total-append : (xs ys : List EntryFact) → total (xs ++ ys) ≡ total xs + total ys
  total-append xs ys = ap (sum_by (λ f. f.cents)) (filter-append p xs ys) ∙ sum_by-append (λ f. f.cents) (filter p xs) (filter p ys)

  -- a row that is not open counts nothing
  none_counts : (debit : Bool) (es : List Entry) (ss : List EntryState) → list_any (λ s. is_open_credit s since) ss ≡ false
      → filter p (map (entry_fact debit) (zip es ss)) ≡ []
  none_counts debit [] ss none = refl
  none_counts debit (e ∷ es) [] none = refl
  none_counts debit (e ∷ es) (s ∷ ss) none =
      let parts = or_parts (is_open_credit s since) (list_any (λ s. is_open_credit s since) ss) none in
      let fact : EntryFact = entry_fact debit (e, s) in
      let rest = filter p (map (entry_fact debit) (zip es ss)) in
      ap (λ (t : Bool). cond t (fact ∷ rest) rest) (never fact parts.0) ∙ none_counts debit es ss parts.1

  same_total : (rows : List Row) → total (facts_in (open_rows since rows)) ≡ total (facts_in rows)
  same_total [] = refl
  same_total (x ∷ rows) =
      let rest = open_rows since rows in
      elim (cases_Bool (is_open_row since x)) [
        | inl opens ↦
            ap (λ (t : Bool). total (facts_in (cond t (x ∷ rest) rest))) opens
            ∙ total-append (row_facts x) (facts_in rest)
            ∙ ap (λ n. total (row_facts x) + n) (same_total rows)
            ∙ sym (total-append (row_facts x) (facts_in rows))
        | inr shut ↦
            ap (λ (t : Bool). total (facts_in (cond t (x ∷ rest) rest))) shut
            ∙ same_total rows
            ∙ (let none : total (row_facts x) ≡ 0 = ap (sum_by (λ f. f.cents)) (none_counts _ x.content.entries x.states shut) in let sum = total-append (row_facts x) (facts_in rows) in let e : total (facts_in rows) ≡ total (row_facts x ++ facts_in rows) = omega (arith, none, sum) in e)
      ]

before_then : (since day d : ℕ) → since ≤ day → nat_le since d ≡ false → nat_le day d ≡ false
before_then since day d up out = lt-leb day d (let below = leb-false since d out in omega (arith, up, below))

-- a state that is past is of no open credit, and of no open debit
module _ (since day : ℕ) (holidays : List ℕ) (is : IsPast since day holidays) where
  no_credit : (s : EntryState) → is_open_credit s since ≡ false → is_open_credit s day ≡ false
  no_credit Held out = absurd (let e = out in cc)
  no_credit (Sent settled) out = before_then since day settled is.within out
  no_credit (Returned settled code taken late) out = before_then since day settled is.within out
  no_credit Lapsed out = refl

  no_debit : (s : EntryState) → is_open_credit s since ≡ false → is_open_debit s day holidays ≡ false
  no_debit Held out = absurd (let e = out in cc)
  no_debit (Sent settled) out = lt-leb day (nth_after holidays settled 2) (is.past settled (leb-false since settled out))
  no_debit (Returned settled code taken late) out = refl
  no_debit Lapsed out = refl

  same_credit : (rows : List Row) → credit_exposure (facts_in (open_rows since rows)) day ≡ credit_exposure (facts_in rows) day
  same_credit rows = same_total since (λ f. not f.debit && is_open_credit f.state day) (λ f out. and_right (not f.debit) (is_open_credit f.state day) (no_credit f.state out)) rows

  same_debit : (rows : List Row) → debit_exposure (facts_in (open_rows since rows)) day holidays ≡ debit_exposure (facts_in rows) day holidays
  same_debit rows = same_total since (λ f. f.debit && is_open_debit f.state day holidays) (λ f out. and_right f.debit (is_open_debit f.state day holidays) (no_debit f.state out)) rows

pub open_rows_suffice : OpenRowsSuffice
open_rows_suffice rows since day holidays is =
    ap (λ (n : ℕ). (n, debit_exposure (facts_in (open_rows since rows)) day holidays)) (same_credit since day holidays is rows)
    ∙ ap (λ (n : ℕ). (credit_exposure (facts_in rows) day, n)) (same_debit since day holidays is rows)

-- what settled up to a day whose second banking day is before the desk day is past
pub past_before : NthBankingDays → (holidays : List ℕ) (before day since : ℕ) → AreHolidays holidays → before ≤ last_rule_day → nth_after holidays before 2 < day
    → since ≡ before + 1 → IsPast since day holidays
past_before law holidays before day since are early past next =
    let after = (law.found holidays before 2 last_argument_day are.bounded (omega (arith, early)) (omega arith) (omega arith)).after in
    record {
      within = omega (arith, past, after, next);
      past = λ settled less.
          let rising = law.rising holidays settled before 2 last_argument_day are.bounded (omega (arith, less, next)) (omega (arith, early)) (omega arith) (omega arith) in
          omega (arith, rising, past);
    }

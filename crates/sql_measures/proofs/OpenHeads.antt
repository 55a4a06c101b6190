-- What is not open adds nothing to exposures, which are the sums of those of each submission.
use Rattle.std.proofs.Common.{◌≡◌, ◌<◌, ℕ, Bool, true, false, not, ◌&&◌, ◌||◌, is_none, nat_le, List, map, filter, sum_by, Option, None, Some, refl, sym, ap, ◌∙◌, arith, true≢false}
use Rattle.std.proofs.lemmas.Bool.Decides.{nat_tests}
use Rattle.std.proofs.lemmas.List.Elements.{filter-append}
use Rattle.std.proofs.lemmas.List.Sums.{sum_by-append}
use Rattle.bank_days.specs.Calendar.{nth_after}
use Rattle.desk_rules.specs.Exposure.{is_open_credit, is_open_debit, credit_exposure, debit_exposure}
use Rattle.desk_rules.specs.declared.rules.entry_fact.EntryFact.{EntryFact}
use Rattle.desk_book.specs.OpenRows.{IsPast}
use Rattle.desk_book.specs.Standing.{row_facts, facts_in}
use Rattle.sql_tables.specs.Encodes.{unless_lapsed}
use Rattle.sql_tables.specs.RowParts.{state_with}
use Rattle.sql_tables.specs.Selected.{head_of}
use Rattle.sql_tables.specs.TableReads.{is_of, is_open_of, is_since, is_waiting, heads_in, whole_row}
use Rattle.sql_tables.specs.Tables.{Tables}
use Rattle.sql_tables.specs.declared.records.SubmissionRecord.{SubmissionRecord}
use Rattle.sql_tables.specs.declared.row.submissions.SubmissionHead.{SubmissionHead}
use Rattle.sql_tables.specs.Composed.{exposures_in}
use Rattle.sql_measures.proofs.Measures.{Adds, over_each, summed_map, narrowed}
use Rattle.sql_measures.proofs.RowFacts.{credit_none, debit_none}
use Rattle.sql_measures.specs.Counted.{row_exposures, heads_exposures}

cents_add : (p : EntryFact → Bool) → Adds (λ (facts : List EntryFact). sum_by (λ f. f.cents) (filter p facts))
cents_add p = record {
  none = refl;
  both = λ xs ys. ap (sum_by (λ (f : EntryFact). f.cents)) (filter-append p xs ys) ∙ sum_by-append (λ (f : EntryFact). f.cents) (filter p xs) (filter p ys);
}

module _ (t : Tables) (day : ℕ) (holidays : List ℕ) where
  abbrev credit_of : SubmissionHead → ℕ
  credit_of head = credit_exposure (row_facts (whole_row t head)) day

  abbrev debit_of : SubmissionHead → ℕ
  debit_of head = debit_exposure (row_facts (whole_row t head)) day holidays

  credits_summed : (heads : List SubmissionHead) → credit_exposure (facts_in (map (whole_row t) heads)) day ≡ sum_by credit_of heads
  credits_summed heads =
      over_each (λ facts. credit_exposure facts day) (cents_add (λ f. not f.debit && is_open_credit f.state day)) row_facts (map (whole_row t) heads)
      ∙ summed_map (λ row. credit_exposure (row_facts row) day) (whole_row t) heads

  debits_summed : (heads : List SubmissionHead) → debit_exposure (facts_in (map (whole_row t) heads)) day holidays ≡ sum_by debit_of heads
  debits_summed heads =
      over_each (λ facts. debit_exposure facts day holidays) (cents_add (λ f. f.debit && is_open_debit f.state day holidays)) row_facts (map (whole_row t) heads)
      ∙ summed_map (λ row. debit_exposure (row_facts row) day holidays) (whole_row t) heads

  -- the exposures are the sums of those of each
  pub exposures_summed : (pairs : List (ℕ × ℕ)) (heads : List SubmissionHead) → pairs ≡ map (λ head. row_exposures day holidays (whole_row t head)) heads
      → (sum_by (λ (pair : ℕ × ℕ). pair.0) pairs, sum_by (λ (pair : ℕ × ℕ). pair.1) pairs) ≡ heads_exposures t heads day holidays
  exposures_summed pairs heads are =
      let credit = ap (sum_by (λ (pair : ℕ × ℕ). pair.0)) are ∙ summed_map (λ (pair : ℕ × ℕ). pair.0) (λ head. row_exposures day holidays (whole_row t head)) heads ∙ sym (credits_summed heads) in
      let debit = ap (sum_by (λ (pair : ℕ × ℕ). pair.1)) are ∙ summed_map (λ (pair : ℕ × ℕ). pair.1) (λ head. row_exposures day holidays (whole_row t head)) heads ∙ sym (debits_summed heads) in
      λ i. (credit i, debit i)

  -- ---- what is not open

  below : (since on : ℕ) → (nat_le since on || false) ≡ false → on < since
  below since on h = grind (arith, nat_tests)

  not_yet : (m n : ℕ) → n < m → nat_le m n ≡ false
  not_yet m n h = grind (arith, nat_tests)

  module _ (since : ℕ) (past : IsPast since day holidays) where
    closed_credit : (lapsed : Bool) (settled : Option ℕ) → (is_since since settled || (is_none settled && not lapsed)) ≡ false → is_open_credit (unless_lapsed lapsed (state_with settled None)) day ≡ false
    closed_credit true settled h = refl
    closed_credit false None h = absurd (true≢false h)
    closed_credit false (Some on) h = let l = below since on h in let within = past.within in not_yet day on (omega arith)

    closed_debit : (lapsed : Bool) (settled : Option ℕ) → (is_since since settled || (is_none settled && not lapsed)) ≡ false → is_open_debit (unless_lapsed lapsed (state_with settled None)) day holidays ≡ false
    closed_debit true settled h = refl
    closed_debit false None h = absurd (true≢false h)
    closed_debit false (Some on) h = not_yet day (nth_after holidays on 2) (past.past on (below since on h))

    no_credit : (s : SubmissionRecord) → (is_since since s.head.settled || is_waiting s) ≡ false → credit_of (head_of s) ≡ 0
    no_credit s h = credit_none t (head_of s) day (closed_credit s.head.lapsed s.head.settled h)

    no_debit : (s : SubmissionRecord) → (is_since since s.head.settled || is_waiting s) ≡ false → debit_of (head_of s) ≡ 0
    no_debit s h = debit_none t (head_of s) day holidays (closed_debit s.head.lapsed s.head.settled h)

    -- the open submissions have all exposures
    pub open_suffice : (c : List ℕ) → heads_exposures t (heads_in (is_open_of c since) t) day holidays ≡ exposures_in c day holidays t
    open_suffice c =
        let rest : SubmissionRecord → Bool = λ s. is_since since s.head.settled || is_waiting s in
        let credit =
        credits_summed (heads_in (is_open_of c since) t) ∙ summed_map credit_of head_of (filter (is_open_of c since) t.submissions)
        ∙ narrowed (λ s. credit_of (head_of s)) (is_of c) rest (λ s own closed. no_credit s closed) t.submissions
        ∙ sym (credits_summed (heads_in (is_of c) t) ∙ summed_map credit_of head_of (filter (is_of c) t.submissions)) in
        let debit =
        debits_summed (heads_in (is_open_of c since) t) ∙ summed_map debit_of head_of (filter (is_open_of c since) t.submissions)
        ∙ narrowed (λ s. debit_of (head_of s)) (is_of c) rest (λ s own closed. no_debit s closed) t.submissions
        ∙ sym (debits_summed (heads_in (is_of c) t) ∙ summed_map debit_of head_of (filter (is_of c) t.submissions)) in
        λ i. (credit i, debit i)

-- What the rules read of a submission's entries, and what these come to.
use Rattle.std.proofs.Common.{◌≡◌, ℕ, ◌+◌, ◌==◌, Bool, true, false, not, ◌&&◌, cond, List, [], ◌∷◌, map, filter, sum_by, zip, find, Option, None, Some, refl, sym, ap, ◌∙◌}
use Rattle.std.proofs.lemmas.List.Sums.{sum_by-cons}
use Rattle.desk_rules.specs.Exposure.{is_open_credit, is_open_debit, credit_exposure, debit_exposure}
use Rattle.desk_rules.specs.LimitChecks.{is_debit}
use Rattle.desk_rules.specs.declared.rules.entry_fact.EntryFact.{EntryFact}
use Rattle.desk_history.specs.Facts.{entry_fact}
use Rattle.desk_book.specs.Standing.{row_facts}
use Rattle.sql_tables.specs.Encodes.{unless_lapsed}
use Rattle.sql_tables.specs.RowParts.{state_with, state_among}
use Rattle.sql_tables.specs.Selected.{amount_of, numbered_of}
use Rattle.sql_tables.specs.TableReads.{is_entry_of, amounts_in, cents_in, returns_in, whole_row}
use Rattle.sql_tables.specs.Tables.{Tables}
use Rattle.sql_tables.specs.declared.records.EntryRecord.{EntryRecord}
use Rattle.sql_tables.specs.declared.row.entries.EntryAmount.{EntryAmount}
use Rattle.sql_tables.specs.declared.row.items.EntryReturn.{EntryReturn}
use Rattle.sql_tables.specs.declared.row.submissions.SubmissionHead.{SubmissionHead}
use Rattle.sql_tables.specs.Composed.{fact_among}
use Rattle.sql_measures.specs.Counted.{IsWhole, state_alone}

pub credit_alike : (lapsed : Bool) (settled : Option ℕ) (back : Option EntryReturn) (day : ℕ) → is_open_credit (unless_lapsed lapsed (state_with settled back)) day ≡ is_open_credit (unless_lapsed lapsed (state_with settled None)) day
credit_alike true settled back day = refl
credit_alike false None back day = refl
credit_alike false (Some on) None day = refl
credit_alike false (Some on) (Some r) day = refl

debit_closed : (lapsed : Bool) (settled : Option ℕ) (back : Option EntryReturn) (day : ℕ) (holidays : List ℕ) → is_open_debit (unless_lapsed lapsed (state_with settled None)) day holidays ≡ false
    → is_open_debit (unless_lapsed lapsed (state_with settled back)) day holidays ≡ false
debit_closed true settled back day holidays closed = closed
debit_closed false None back day holidays closed = closed
debit_closed false (Some on) None day holidays closed = closed
debit_closed false (Some on) (Some r) day holidays closed = refl

module _ (t : Tables) (head : SubmissionHead) where
  abbrev returned : List EntryReturn
  returned = returns_in head.company head.order t

  abbrev own : List EntryRecord
  own = filter (is_entry_of head.company head.order) t.entries

  same_facts : (es : List EntryRecord) → map (fact_among head returned) (map amount_of es)
      ≡ map (entry_fact (is_debit head.direction)) (zip (map (λ e. e.entry) (map numbered_of es)) (map (λ e. state_among head returned e.index) (map numbered_of es)))
  same_facts [] = refl
  same_facts (e ∷ es) = ap (λ l. fact_among head returned (amount_of e) ∷ l) (same_facts es)

  -- they are read without names and texts
  pub facts_are : map (fact_among head returned) (amounts_in head.company head.order t) ≡ row_facts (whole_row t head)
  facts_are = same_facts own

  module _ (test : EntryFact → Bool) where
    abbrev facts : List EntryRecord → List EntryFact
    facts es = map (fact_among head returned) (map amount_of es)

    all_own : ((a : EntryAmount) → test (fact_among head returned a) ≡ true) → (es : List EntryRecord) → sum_by (λ f. f.cents) (filter test (facts es)) ≡ sum_by (λ e. e.entry.cents) es
    all_own passes [] = refl
    all_own passes (e ∷ es) =
        ap (λ b. sum_by (λ (f : EntryFact). f.cents) (cond b (fact_among head returned (amount_of e) ∷ filter test (facts es)) (filter test (facts es)))) (passes (amount_of e))
        ∙ sum_by-cons (λ (f : EntryFact). f.cents) (fact_among head returned (amount_of e)) (filter test (facts es))
        ∙ ap (λ n. e.entry.cents + n) (all_own passes es)
        ∙ sym (sum_by-cons (λ (e : EntryRecord). e.entry.cents) e es)

    none_own : ((a : EntryAmount) → test (fact_among head returned a) ≡ false) → (es : List EntryRecord) → sum_by (λ f. f.cents) (filter test (facts es)) ≡ 0
    none_own fails [] = refl
    none_own fails (e ∷ es) =
        ap (λ b. sum_by (λ (f : EntryFact). f.cents) (cond b (fact_among head returned (amount_of e) ∷ filter test (facts es)) (filter test (facts es)))) (fails (amount_of e)) ∙ none_own fails es

    -- a test that all pass, or none
    pub cents_where : (b : Bool) → ((a : EntryAmount) → test (fact_among head returned a) ≡ b) → sum_by (λ f. f.cents) (filter test (row_facts (whole_row t head))) ≡ cond b (cents_in head.company head.order t) 0
    cents_where true passes = ap (λ l. sum_by (λ (f : EntryFact). f.cents) (filter test l)) (sym facts_are) ∙ all_own passes own
    cents_where false fails = ap (λ l. sum_by (λ (f : EntryFact). f.cents) (filter test l)) (sym facts_are) ∙ none_own fails own

  -- credits count alike, whether they came back or not
  pub credit_whole : (day : ℕ) → credit_exposure (row_facts (whole_row t head)) day ≡ cond (not (is_debit head.direction) && is_open_credit (state_alone head) day) (cents_in head.company head.order t) 0
  credit_whole day =
      cents_where (λ f. not f.debit && is_open_credit f.state day) (not (is_debit head.direction) && is_open_credit (state_alone head) day)
      (λ a. ap (λ b. not (is_debit head.direction) && b) (credit_alike head.lapsed head.settled (find (λ r. r.index == a.index) returned) day))

  and_false : (b : Bool) → (b && false) ≡ false
  and_false true = refl
  and_false false = refl

  -- and debits where none came back
  debit_whole : (day : ℕ) (holidays : List ℕ) → IsWhole t head
      → debit_exposure (row_facts (whole_row t head)) day holidays ≡ cond (is_debit head.direction && is_open_debit (state_alone head) day holidays) (cents_in head.company head.order t) 0
  debit_whole day holidays whole =
      cents_where (λ f. f.debit && is_open_debit f.state day holidays) (is_debit head.direction && is_open_debit (state_alone head) day holidays)
      (λ a. ap (λ state. is_debit head.direction && is_open_debit state day holidays) (whole a.index))

  pub debit_none : (day : ℕ) (holidays : List ℕ) → is_open_debit (state_alone head) day holidays ≡ false → debit_exposure (row_facts (whole_row t head)) day holidays ≡ 0
  debit_none day holidays closed =
      cents_where (λ f. f.debit && is_open_debit f.state day holidays) false
      (λ a. ap (λ b. is_debit head.direction && b) (debit_closed head.lapsed head.settled (find (λ r. r.index == a.index) returned) day holidays closed) ∙ and_false (is_debit head.direction))

  pub credit_none : (day : ℕ) → is_open_credit (state_alone head) day ≡ false → credit_exposure (row_facts (whole_row t head)) day ≡ 0
  credit_none day closed =
      credit_whole day ∙ ap (λ b. cond (not (is_debit head.direction) && b) (cents_in head.company head.order t) 0) closed ∙ ap (λ b. cond b (cents_in head.company head.order t) 0) (and_false (not (is_debit head.direction)))

  -- of the other direction
  pub no_credit : (day : ℕ) → is_debit head.direction ≡ true → credit_exposure (row_facts (whole_row t head)) day ≡ 0
  no_credit day debit = credit_whole day ∙ ap (λ b. cond (not b && is_open_credit (state_alone head) day) (cents_in head.company head.order t) 0) debit

  pub no_debit : (day : ℕ) (holidays : List ℕ) → is_debit head.direction ≡ false → debit_exposure (row_facts (whole_row t head)) day holidays ≡ 0
  no_debit day holidays credit = cents_where (λ f. f.debit && is_open_debit f.state day holidays) false (λ a. ap (λ b. b && is_open_debit (state_among head returned a.index) day holidays) credit)

  -- ---- what is read of an open submission

  pub credit_open : (day cents : ℕ) → cents ≡ cents_in head.company head.order t → is_debit head.direction ≡ false → is_open_credit (state_alone head) day ≡ true → cents ≡ credit_exposure (row_facts (whole_row t head)) day
  credit_open day cents are credit counts =
      are ∙ sym (credit_whole day ∙ (λ i. cond (not (credit i) && counts i) (cents_in head.company head.order t) 0))

  pub debit_open : (day : ℕ) (holidays : List ℕ) (cents : ℕ) → cents ≡ cents_in head.company head.order t → IsWhole t head → is_debit head.direction ≡ true → is_open_debit (state_alone head) day holidays ≡ true
      → cents ≡ debit_exposure (row_facts (whole_row t head)) day holidays
  debit_open day holidays cents are whole debit counts =
      are ∙ sym (debit_whole day holidays whole ∙ (λ i. cond (debit i && counts i) (cents_in head.company head.order t) 0))

  -- ---- where none came back

  pub held_whole : head.settled ≡ None → IsWhole t head
  held_whole held index =
      ap (λ s. unless_lapsed head.lapsed (state_with s (find (λ r. r.index == index) returned))) held ∙ sym (ap (λ (s : Option ℕ). unless_lapsed head.lapsed (state_with s None)) held)

  pub none_whole : returned ≡ [] → IsWhole t head
  none_whole none index = ap (λ (rs : List EntryReturn). unless_lapsed head.lapsed (state_with head.settled (find (λ r. r.index == index) rs))) none

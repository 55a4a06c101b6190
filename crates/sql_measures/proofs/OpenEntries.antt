-- What is read of open submissions is what the book has of them.
use Rattle.std.proofs.Common.{◌≡◌, ◌<◌, ℕ, ◌+◌, ◌==◌, Bool, true, false, not, ◌||◌, cond, List, [], ◌∷◌, ◌++◌, map, filter, length, sum_by, zip, find, Option, None, Some, refl, sym, ap, ◌∙◌, arith, true≢false}
use Rattle.std.specs.Prelude.{if◌then◌else◌, ◌&&◌}
use Rattle.std.specs.List.{flat_map, list_any}
use Rattle.std.proofs.lemmas.Bool.{eq-eqb, eqb-true}
use Rattle.std.proofs.lemmas.List.Sums.{sum_by-cons}
use Rattle.desk_rules.specs.Exposure.{is_open_credit}
use Rattle.desk_rules.specs.LimitChecks.{is_debit}
use Rattle.desk_rules.specs.declared.rules.entry_fact.EntryFact.{EntryFact}
use Rattle.desk_rules.specs.declared.rules.entry_fact.EntryState.{EntryState}
use Rattle.desk_history.specs.Facts.{entry_fact}
use Rattle.desk_book.specs.OpenRows.{is_open_row}
use Rattle.desk_book.specs.OpenSubmissions.{open_cents, open_submission, settle_as, settles_as, standing_cents}
use Rattle.desk_book.specs.Standing.{row_facts}
use Rattle.desk_book.specs.declared.open_submission.OpenSubmission.{OpenSubmission}
use Rattle.desk_book.specs.declared.row.Row.{Row}
use Rattle.sql_tables.specs.Composed.{fact_among}
use Rattle.sql_tables.specs.Encodes.{unless_lapsed}
use Rattle.sql_tables.specs.RowParts.{state_among, state_with}
use Rattle.sql_tables.specs.Selected.{amount_of, numbered_of}
use Rattle.sql_tables.specs.TableReads.{cents_in, is_entry_of, returns_in, whole_row}
use Rattle.sql_tables.specs.Tables.{Tables}
use Rattle.sql_tables.specs.declared.records.EntryRecord.{EntryRecord}
use Rattle.sql_tables.specs.declared.row.entries.EntryAmount.{EntryAmount}
use Rattle.sql_tables.specs.declared.row.items.EntryReturn.{EntryReturn}
use Rattle.sql_tables.specs.declared.row.submissions.SubmissionHead.{SubmissionHead}
use Rattle.sql_measures.proofs.RowFacts.{credit_alike, facts_are}
use Rattle.sql_measures.specs.Counted.{state_alone}
use Rattle.sql_measures.specs.OpenEntries.{if_open, open_with}

-- an entry settles as its submission, if that is open
settles : (lapsed : Bool) (settled : Option ℕ) (since : ℕ) → is_open_credit (unless_lapsed lapsed (state_with settled None)) since ≡ true
    → (back : Option EntryReturn) → settles_as settled (unless_lapsed lapsed (state_with settled back)) ≡ true
settles true settled since counts back = absurd (true≢false (sym counts))
settles false None since counts back = refl
settles false (Some on) since counts None = eq-eqb on on refl
settles false (Some on) since counts (Some r) = eq-eqb on on refl

abbrev pub is_nil : {X : Type 0} → List X → Bool
is_nil [] = true
is_nil (x ∷ xs) = false

pub none_of : (fs : List EntryFact) (n : ℕ) → n ≡ length fs → (n == 0) ≡ true → fs ≡ []
none_of [] n same is = refl
none_of (f ∷ fs) n same is = let none = eqb-true n 0 is in absurd (omega (arith, same, none))

pub some_of : (fs : List EntryFact) (n : ℕ) → n ≡ length fs → (n == 0) ≡ false → is_nil fs ≡ false
some_of [] n same is = absurd (true≢false (sym (eq-eqb n 0 same) ∙ is))
some_of (f ∷ fs) n same is = refl

has_some : (fs : List EntryFact) → 0 < sum_by (λ f. f.cents) fs → is_nil fs ≡ false
has_some [] above = absurd (omega (arith, above))
has_some (f ∷ fs) above = refl

module _ (t : Tables) (head : SubmissionHead) where
  abbrev returned : List EntryReturn
  returned = returns_in head.company head.order t

  abbrev own : List EntryRecord
  own = filter (is_entry_of head.company head.order) t.entries

  abbrev row : Row
  row = whole_row t head

  abbrev states : List EntryRecord → List EntryState
  states es = map (λ e. state_among head returned e.index) (map numbered_of es)

  abbrev facts : List EntryRecord → List EntryFact
  facts es = map (entry_fact (is_debit head.direction)) (zip (map (λ e. e.entry) (map numbered_of es)) (states es))

  -- the sum of the cents of all entries
  sum_own : (es : List EntryRecord) → sum_by (λ f. f.cents) (facts es) ≡ sum_by (λ e. e.entry.cents) es
  sum_own [] = refl
  sum_own (e ∷ es) =
      sum_by-cons (λ (f : EntryFact). f.cents) (entry_fact (is_debit head.direction) (e.entry, state_among head returned e.index)) (facts es)
      ∙ ap (λ n. e.entry.cents + n) (sum_own es) ∙ sym (sum_by-cons (λ (e : EntryRecord). e.entry.cents) e es)

  pub total_is : sum_by (λ f. f.cents) (row_facts row) ≡ cents_in head.company head.order t
  total_is = sum_own own

  -- ---- a submission that is not open

  shut_own : (since : ℕ) → is_open_credit (state_alone head) since ≡ false → (es : List EntryRecord) → list_any (λ state. is_open_credit state since) (states es) ≡ false
  shut_own since closed [] = refl
  shut_own since closed (e ∷ es) =
      ap (λ b. b || list_any (λ state. is_open_credit state since) (states es)) (credit_alike head.lapsed head.settled (find (λ r. r.index == e.index) returned) since ∙ closed) ∙ shut_own since closed es

  pub read_closed : (since : ℕ) → is_open_credit (state_alone head) since ≡ false → [] ≡ if_open since row
  read_closed since closed = sym (ap (λ b. if b then open_submission row ∷ [] else []) (shut_own since closed own))

  -- ---- one that is open, if it has an entry

  module _ (since : ℕ) (counts : is_open_credit (state_alone head) since ≡ true) where
    opens_own : (es : List EntryRecord) → list_any (λ state. is_open_credit state since) (states es) ≡ not (is_nil (facts es))
    opens_own [] = refl
    opens_own (e ∷ es) =
        ap (λ b. b || list_any (λ state. is_open_credit state since) (states es)) (credit_alike head.lapsed head.settled (find (λ r. r.index == e.index) returned) since ∙ counts)

    uniform_own : (es : List EntryRecord) → settle_as head.settled (facts es) ≡ true
    uniform_own [] = refl
    uniform_own (e ∷ es) =
        ap (λ b. b && settle_as head.settled (facts es)) (settles head.lapsed head.settled since counts (find (λ r. r.index == e.index) returned)) ∙ uniform_own es

    pub read_empty : row_facts row ≡ [] → [] ≡ if_open since row
    read_empty none = sym (ap (λ b. if b then open_submission row ∷ [] else []) (opens_own own ∙ ap (λ (fs : List EntryFact). not (is_nil fs)) none))

    pub read_open : (total : ℕ) (cents : List ℕ) → total ≡ sum_by (λ f. f.cents) (row_facts row) → cents ≡ open_cents head.direction (row_facts row)
        → is_nil (row_facts row) ≡ false
        → open_with head total cents ∷ [] ≡ if_open since row
    read_open total cents sums are some =
        (λ i. record (open_submission row) { uniform = sym (uniform_own own) i; total = sums i; cents = are i } ∷ [])
        ∙ sym (ap (λ b. if b then open_submission row ∷ [] else []) (opens_own own ∙ ap not some))

    -- its facts are read
    pub read_facts : (facts : List EntryFact) (total : ℕ) (cents : List ℕ) → facts ≡ row_facts row → total ≡ sum_by (λ f. f.cents) facts → cents ≡ open_cents head.direction facts
        → is_nil facts ≡ false → open_with head total cents ∷ [] ≡ if_open since row
    read_facts facts total cents are sums opens some =
        read_open total cents (sums ∙ ap (sum_by (λ (f : EntryFact). f.cents)) are) (opens ∙ ap (open_cents head.direction) are) (sym (ap is_nil are) ∙ some)

    -- its cents are more than 0
    pub read_sum : (total : ℕ) (cents : List ℕ) → is_debit head.direction ≡ false → total ≡ cents_in head.company head.order t → 0 < total → cents ≡ []
        → open_with head total cents ∷ [] ≡ if_open since row
    read_sum total cents credit is above none =
        let whole = is ∙ sym total_is in
        read_open total cents whole (none ∙ sym (ap (λ b. if b then map standing_cents (row_facts row) else []) credit)) (has_some (row_facts row) (omega (arith, whole, above)))

-- ---- the submissions of a list

pub each_open : (t : Tables) (since : ℕ) (heads : List SubmissionHead)
    → flat_map (λ head. if_open since (whole_row t head)) heads ≡ map open_submission (filter (is_open_row since) (map (whole_row t) heads))
each_open t since [] = refl
each_open t since (head ∷ heads) = by (is_open_row since (whole_row t head)) (each_open t since heads) where
  by : (b : Bool) → flat_map (λ head. if_open since (whole_row t head)) heads ≡ map open_submission (filter (is_open_row since) (map (whole_row t) heads))
      → (if b then open_submission (whole_row t head) ∷ [] else []) ++ flat_map (λ head. if_open since (whole_row t head)) heads
      ≡ map open_submission (cond b (whole_row t head ∷ filter (is_open_row since) (map (whole_row t) heads)) (filter (is_open_row since) (map (whole_row t) heads)))
  by true rest = ap (λ (xs : List OpenSubmission). open_submission (whole_row t head) ∷ xs) rest
  by false rest = rest

-- What each step of a book makes of a company's entries.
use Rattle.std.proofs.Common.{◌≡◌, ◌∙◌, refl, ap, sym, ℕ, ◌+◌, Bool, true, false, List, [], ◌∷◌, ◌++◌, map, zip, arith}
use Rattle.std.specs.Prelude.{filter, sum_by, ◌==◌, if◌then◌else◌, bytes_eq}
use Rattle.std.specs.List.{enumerate_from, flat_map}
use Rattle.std.proofs.lemmas.List.{append-nil}
use Rattle.std.proofs.lemmas.List.Sums.{sum_by-cons, sum_by-append}
use Rattle.std.proofs.lemmas.List.Concat.{flat_map-append}
use Rattle.desk_rules.specs.declared.bodies.submission.Entry.{Entry}
use Rattle.desk_rules.specs.declared.rules.entry_fact.EntryFact.{EntryFact}
use Rattle.desk_rules.specs.declared.rules.entry_fact.EntryState.{EntryState}
use Rattle.desk_rules.specs.declared.rules.entry_fact.EntryState.TheVariants.{Sent, Lapsed}
use Rattle.desk_rules.specs.LimitChecks.{is_debit}
use Rattle.desk_history.specs.Facts.{entry_fact}
use Rattle.desk_book.specs.declared.row.Row.{Row}
use Rattle.desk_book.specs.declared.flat_rows.ReturnedRow.{ReturnedRow}
use Rattle.desk_book.specs.Standing.{row_facts, facts_in, is_row_under, sent_row, lapsed_row, next_row}
use Rattle.desk_book.specs.Steps.{if_order, returned_row_by, returned_state_by}
use Rattle.remembering_store.specs.Laws.{HaveChanged, in_state, rows_at, rows_under, numbered_fact, SentSettle, LapsedLapse, ReturnedComeBack, AddedAreHeld}

-- ---- rows that pass a test change, and no others

sums-append : (count : EntryFact → ℕ) (row : Row) (rs : List Row) → sum_by count (facts_in (row ∷ rs)) ≡ sum_by count (row_facts row) + sum_by count (facts_in rs)
sums-append count row rs = sum_by-append count (row_facts row) (facts_in rs)

-- of each row the entries that change are so many
module _ (change : EntryFact → EntryFact) (p : Row → Bool) (turn : Row → Row) (named : Row → List EntryFact)
    (turned : (row : Row) → HaveChanged change (named row) (row_facts row) (row_facts (turn row)))
  where
    rows_changed : (rs : List Row) → HaveChanged change (flat_map named (filter p rs)) (facts_in rs) (facts_in (map (λ row. if p row then turn row else row) rs))
    rows_changed [] count = refl
    rows_changed (row ∷ rs) count = by (rows_changed rs count) (p row) where
      after : List Row
      after = map (λ row. if p row then turn row else row) rs

      by : sum_by count (facts_in after) + sum_by count (flat_map named (filter p rs)) ≡ sum_by count (facts_in rs) + sum_by (λ f. count (change f)) (flat_map named (filter p rs))
          → (t : Bool)
          → sum_by count (facts_in ((if t then turn row else row) ∷ after)) + sum_by count (flat_map named (if t then row ∷ filter p rs else filter p rs))
          ≡ sum_by count (facts_in (row ∷ rs)) + sum_by (λ f. count (change f)) (flat_map named (if t then row ∷ filter p rs else filter p rs))
      by rest true =
          let here = turned row count in
          let a = sums-append count (turn row) after in
          let b = sums-append count row rs in
          let c = sum_by-append count (named row) (flat_map named (filter p rs)) in
          let d = sum_by-append (λ f. count (change f)) (named row) (flat_map named (filter p rs)) in
          omega (arith, rest, here, a, b, c, d)
      by rest false =
          let a = sums-append count row after in
          let b = sums-append count row rs in
          omega (arith, rest, a, b)

-- ---- all entries of a row change

pub all_in_state : (change : EntryState → EntryState) (debit : Bool) (es : List Entry) (ss : List EntryState)
    → map (entry_fact debit) (zip es (map change ss)) ≡ map (in_state change) (map (entry_fact debit) (zip es ss))
all_in_state change debit [] ss = refl
all_in_state change debit (e ∷ es) [] = refl
all_in_state change debit (e ∷ es) (s ∷ ss) = ap (λ (fs : List EntryFact). entry_fact debit (e, change s) ∷ fs) (all_in_state change debit es ss)

pub sum-map : (count : EntryFact → ℕ) (change : EntryFact → EntryFact) (fs : List EntryFact) → sum_by count (map change fs) ≡ sum_by (λ f. count (change f)) fs
sum-map count change [] = refl
sum-map count change (f ∷ fs) = sum_by-cons count (change f) (map change fs) ∙ ap (λ (n : ℕ). count (change f) + n) (sum-map count change fs) ∙ sym (sum_by-cons (λ g. count (change g)) f fs)

all_changed : (change : EntryFact → EntryFact) (before after : List EntryFact) → after ≡ map change before → HaveChanged change before before after
all_changed change before after is count =
    let e = ap (sum_by count) is ∙ sum-map count change before in
    omega (arith, e)

sent_turned : (on : ℕ) (row : Row) → HaveChanged (in_state (λ was. Sent on)) (row_facts row) (row_facts row) (row_facts (sent_row on row))
sent_turned on row = all_changed _ _ _ (all_in_state (λ was. Sent on) (is_debit row.content.direction) row.content.entries row.states)

lapsed_turned : (row : Row) → HaveChanged (in_state (λ was. Lapsed)) (row_facts row) (row_facts row) (row_facts (lapsed_row row))
lapsed_turned row = all_changed _ _ _ (all_in_state (λ was. Lapsed) (is_debit row.content.direction) row.content.entries row.states)

-- nothing changes
pub unchanged : (change : EntryFact → EntryFact) (facts : List EntryFact) → HaveChanged change [] facts facts
unchanged change facts count = refl

-- the rows with an order number
pub sent_in : (order on : ℕ) (rs : List Row) → HaveChanged (in_state (λ was. Sent on)) (facts_in (rows_at order rs)) (facts_in rs) (facts_in (map (if_order order (sent_row on)) rs))
sent_in order on rs = rows_changed (in_state (λ was. Sent on)) (λ row. row.order == order) (sent_row on) row_facts (sent_turned on) rs

pub lapsed_in : (order : ℕ) (rs : List Row) → HaveChanged (in_state (λ was. Lapsed)) (facts_in (rows_at order rs)) (facts_in rs) (facts_in (map (if_order order lapsed_row) rs))
lapsed_in order rs = rows_changed (in_state (λ was. Lapsed)) (λ row. row.order == order) lapsed_row row_facts lapsed_turned rs

pub sent_settle : SentSettle
sent_settle b s of = by (bytes_eq s.company of) where
  by : (t : Bool) → HaveChanged (in_state (λ was. Sent s.settled)) (if t then facts_in (rows_at s.order (b.rows of)) else []) (facts_in (b.rows of))
      (facts_in (if t then map (if_order s.order (sent_row s.settled)) (b.rows of) else b.rows of))
  by true = sent_in s.order s.settled (b.rows of)
  by false = unchanged (in_state (λ was. Sent s.settled)) (facts_in (b.rows of))

pub lapsed_lapse : LapsedLapse
lapsed_lapse b l of = by (bytes_eq l.company of) where
  by : (t : Bool) → HaveChanged (in_state (λ was. Lapsed)) (if t then facts_in (rows_at l.order (b.rows of)) else []) (facts_in (b.rows of))
      (facts_in (if t then map (if_order l.order lapsed_row) (b.rows of) else b.rows of))
  by true = lapsed_in l.order (b.rows of)
  by false = unchanged (in_state (λ was. Lapsed)) (facts_in (b.rows of))

-- ---- one entry of a row changes

module _ (change : EntryState → EntryState) (debit : Bool) (index : ℕ) where
  one_changed : (n : ℕ) (es : List Entry) (ss : List EntryState)
      → HaveChanged (in_state change) (map (λ x. x.1) (filter (λ x. x.0 == index) (enumerate_from n (map (entry_fact debit) (zip es ss)))))
      (map (entry_fact debit) (zip es ss)) (map (entry_fact debit) (zip es (map (λ x. if x.0 == index then change x.1 else x.1) (enumerate_from n ss))))
  one_changed n [] ss count = refl
  one_changed n (e ∷ es) [] count = refl
  one_changed n (e ∷ es) (s ∷ ss) count = by (one_changed (n + 1) es ss count) (n == index) where
    changed : List EntryFact
    changed = map (entry_fact debit) (zip es (map (λ x. if x.0 == index then change x.1 else x.1) (enumerate_from (n + 1) ss)))

    others : List EntryFact
    others = map (entry_fact debit) (zip es ss)

    named : List (ℕ × EntryFact)
    named = filter (λ x. x.0 == index) (enumerate_from (n + 1) others)

    by : sum_by count changed + sum_by count (map (λ x. x.1) named) ≡ sum_by count others + sum_by (λ f. count (in_state change f)) (map (λ x. x.1) named)
        → (t : Bool)
        → sum_by count (entry_fact debit (e, if t then change s else s) ∷ changed) + sum_by count (map (λ x. x.1) (if t then (n, entry_fact debit (e, s)) ∷ named else named))
        ≡ sum_by count (entry_fact debit (e, s) ∷ others) + sum_by (λ f. count (in_state change f)) (map (λ x. x.1) (if t then (n, entry_fact debit (e, s)) ∷ named else named))
    by rest true =
        let a = sum_by-cons count (entry_fact debit (e, change s)) changed in
        let b = sum_by-cons count (entry_fact debit (e, s)) others in
        let c = sum_by-cons count (entry_fact debit (e, s)) (map (λ (x : ℕ × EntryFact). x.1) named) in
        let d = sum_by-cons (λ f. count (in_state change f)) (entry_fact debit (e, s)) (map (λ (x : ℕ × EntryFact). x.1) named) in
        omega (arith, rest, a, b, c, d)
    by rest false =
        let a = sum_by-cons count (entry_fact debit (e, s)) changed in
        let b = sum_by-cons count (entry_fact debit (e, s)) others in
        omega (arith, rest, a, b)

-- the entries of one row
pub returned_in_row : (x : ReturnedRow) (row : Row) → HaveChanged (in_state (returned_state_by x)) (numbered_fact x.row.index row) (row_facts row)
    (row_facts (record row { states = map (λ y. if y.0 == x.row.index then returned_state_by x y.1 else y.1) (enumerate_from 1 row.states) }))
returned_in_row x row = one_changed (returned_state_by x) (is_debit row.content.direction) x.row.index 1 row.content.entries row.states

-- those of all rows
pub returned_in : (x : ReturnedRow) (rs : List Row) → HaveChanged (in_state (returned_state_by x)) (flat_map (numbered_fact x.row.index) (rows_under x.row.reference rs)) (facts_in rs) (facts_in (map (returned_row_by x) rs))
returned_in x rs =
    rows_changed (in_state (returned_state_by x)) (is_row_under x.row.reference) (λ row. record row { states = map (λ y. if y.0 == x.row.index then returned_state_by x y.1 else y.1) (enumerate_from 1 row.states) })
    (numbered_fact x.row.index) (returned_in_row x) rs

pub returned_come_back : ReturnedComeBack
returned_come_back b x of = by (bytes_eq x.company of) where
  by : (t : Bool) → HaveChanged (in_state (returned_state_by x)) (if t then flat_map (numbered_fact x.row.index) (rows_under x.row.reference (b.rows of)) else []) (facts_in (b.rows of))
      (facts_in (if t then map (returned_row_by x) (b.rows of) else b.rows of))
  by true = returned_in x (b.rows of)
  by false = unchanged (in_state (returned_state_by x)) (facts_in (b.rows of))

-- ---- a new submission

pub added_are_held : AddedAreHeld
added_are_held c order s retry b of = by (bytes_eq c of) where
  by : (t : Bool) → facts_in (if t then b.rows of ++ next_row (b.rows of) s retry ∷ [] else b.rows of) ≡ facts_in (b.rows of) ++ (if t then row_facts (next_row (b.rows of) s retry) else [])
  by true = flat_map-append row_facts (b.rows of) (next_row (b.rows of) s retry ∷ []) ∙ ap (λ (fs : List EntryFact). facts_in (b.rows of) ++ fs) (append-nil (row_facts (next_row (b.rows of) s retry)))
  by false = sym (append-nil (facts_in (b.rows of)))

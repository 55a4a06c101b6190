-- What is right of a company's open rows is right of all of them.
use Rattle.std.proofs.Common.{◌≡◌, ◌∙◌, refl, ap, sym, subst, ℕ, suc, ◌+◌, ◌<◌, ◌≤◌, Bool, true, false, List, [], ◌∷◌, map, zip, length, Option, Some, None, arith}
use Rattle.std.specs.Prelude.{sum_by, filter, not, ◌&&◌, ◌==◌, if◌then◌else◌, IfSome}
use Rattle.std.specs.List.{range_with_len, list_any, AllByRecursion}
use Rattle.std.proofs.lemmas.Bool.{eqb-true, eq-eqb, ne_eqb, or_parts, leb-false}
use Rattle.std.proofs.lemmas.List.Sums.{sum_by-append}
use Rattle.desk_rules.specs.declared.bodies.submission.Entry.{Entry}
use Rattle.desk_rules.specs.declared.rules.entry_fact.EntryFact.{EntryFact}
use Rattle.desk_rules.specs.declared.rules.entry_fact.EntryState.{EntryState}
use Rattle.desk_rules.specs.declared.rules.entry_fact.EntryState.TheVariants.{Held, Sent, Returned, Lapsed}
use Rattle.desk_rules.specs.Exposure.{is_open_credit}
use Rattle.desk_rules.specs.LimitChecks.{is_debit}
use Rattle.desk_history.specs.Facts.{entry_fact}
use Rattle.desk_book.specs.declared.row.Row.{Row}
use Rattle.desk_book.specs.Standing.{row_facts, facts_in}
use Rattle.desk_book.specs.OpenRows.{is_open_row, open_rows}
use Rattle.remembering_store.specs.OpenSums.{is_held, settles_on, stands_on}
use Rattle.remembering_store.specs.KnownRow.{KnownRow}
use Rattle.remembering_store.specs.Laws.{rows_at}
use Rattle.remembering_store.specs.OpenRows.{row_in}
use Rattle.remembering_store.specs.Remembered.{AreSince, AreSums, AreRows, IsKeptAs, AreNumbered, IsOf}
use Rattle.remembering_store.specs.declared.sums.company_sums.Sums.{Sums}
use Rattle.remembering_store.specs.declared.sums.open_rows.OpenRows.{OpenRows}
use Rattle.remembering_store.specs.declared.sums.remembered.Remembered.{Remembered}
use Rattle.remembering_store.proofs.Following.{whatever, turned}
use Rattle.remembering_store.proofs.Weights.{held_weight, day_weight, held_sum, day_sum, alike_each, nothing, each_map, each_both}

-- ---- sums

-- of entries that count nothing where their row is shut
module _ (since : ℕ) (count : EntryFact → ℕ) (never : (row : Row) → is_open_row since row ≡ false → sum_by count (row_facts row) ≡ 0) where
  same_sum : (rs : List Row) → sum_by count (facts_in (open_rows since rs)) ≡ sum_by count (facts_in rs)
  same_sum [] = refl
  same_sum (row ∷ rs) = by (same_sum rs) (is_open_row since row) refl ∙ sym (sum_by-append count (row_facts row) (facts_in rs)) where
    by : sum_by count (facts_in (open_rows since rs)) ≡ sum_by count (facts_in rs) → (t : Bool) → is_open_row since row ≡ t
        → sum_by count (facts_in (if t then row ∷ open_rows since rs else open_rows since rs)) ≡ sum_by count (row_facts row) + sum_by count (facts_in rs)
    by rest true e = sum_by-append count (row_facts row) (facts_in (open_rows since rs)) ∙ ap (λ (n : ℕ). sum_by count (row_facts row) + n) rest
    by rest false e = let none = never row e in omega (arith, rest, none)

and_not : (b : Bool) → (b && false) ≡ false
and_not true = refl
and_not false = refl

shut_held : (since : ℕ) (s : EntryState) → is_open_credit s since ≡ false → is_held s ≡ false
shut_held since Held shut = absurd (let e = shut in cc)
shut_held since (Sent on) shut = refl
shut_held since (Returned settled code back late) shut = refl
shut_held since Lapsed shut = refl

shut_settles : (since : ℕ) (days : ℕ → Bool) → AreSince since days → (s : EntryState) → is_open_credit s since ≡ false → settles_on days s ≡ false
shut_settles since days from Held shut = refl
shut_settles since days from (Sent on) shut = from on (leb-false since on shut)
shut_settles since days from (Returned settled code back late) shut = from settled (leb-false since settled shut)
shut_settles since days from Lapsed shut = refl

shut_stands : (since : ℕ) (days : ℕ → Bool) → AreSince since days → (s : EntryState) → is_open_credit s since ≡ false → stands_on days s ≡ false
shut_stands since days from Held shut = refl
shut_stands since days from (Sent on) shut = from on (leb-false since on shut)
shut_stands since days from (Returned settled code back late) shut = refl
shut_stands since days from Lapsed shut = refl

shut_facts : (since : ℕ) (debit : Bool) (es : List Entry) (ss : List EntryState) → list_any (λ s. is_open_credit s since) ss ≡ false → AllByRecursion (λ f. is_open_credit f.state since ≡ false) (map (entry_fact debit) (zip es ss))
shut_facts since debit [] ss shut = tt
shut_facts since debit (e ∷ es) [] shut = tt
shut_facts since debit (e ∷ es) (s ∷ ss) shut = let parts = or_parts (is_open_credit s since) (list_any (λ s. is_open_credit s since) ss) shut in (parts.0, shut_facts since debit es ss parts.1)

shut_none : (since : ℕ) (count : EntryFact → ℕ) → ((f : EntryFact) → is_open_credit f.state since ≡ false → count f ≡ 0) → (row : Row) → is_open_row since row ≡ false → sum_by count (row_facts row) ≡ 0
shut_none since count none row shut =
    alike_each count (λ f. 0) (row_facts row) (each_map (λ f. is_open_credit f.state since ≡ false) (λ f. count f ≡ 0) none (row_facts row) (shut_facts since (is_debit row.content.direction) row.content.entries row.states shut)) ∙ nothing (row_facts row)

held_nothing : (since : ℕ) (of : Bool) (f : EntryFact) → is_open_credit f.state since ≡ false → held_weight of f ≡ 0
held_nothing since true f shut = ap (λ (t : Bool). if f.debit && t then f.cents else 0) (shut_held since f.state shut) ∙ ap (λ (t : Bool). if t then f.cents else 0) (and_not f.debit)
held_nothing since false f shut = ap (λ (t : Bool). if not f.debit && t then f.cents else 0) (shut_held since f.state shut) ∙ ap (λ (t : Bool). if t then f.cents else 0) (and_not (not f.debit))

day_nothing : (since : ℕ) (days : ℕ → Bool) → AreSince since days → (of : Bool) (f : EntryFact) → is_open_credit f.state since ≡ false → day_weight of days f ≡ 0
day_nothing since days from true f shut = ap (λ (t : Bool). if f.debit && t then f.cents else 0) (shut_stands since days from f.state shut) ∙ ap (λ (t : Bool). if t then f.cents else 0) (and_not f.debit)
day_nothing since days from false f shut = ap (λ (t : Bool). if not f.debit && t then f.cents else 0) (shut_settles since days from f.state shut) ∙ ap (λ (t : Bool). if t then f.cents else 0) (and_not (not f.debit))

sums_wider : (since : ℕ) (sums : Sums) (rs : List Row) → AreSums since sums (open_rows since rs) → AreSums since sums rs
sums_wider since sums rs are = record {
  held = λ of. are.held of ∙ held_sum of (facts_in (open_rows since rs)) ∙ same_sum since (held_weight of) (shut_none since (held_weight of) (held_nothing since of)) rs ∙ sym (held_sum of (facts_in rs));
  settled = λ of days from.
      are.settled of days from ∙ day_sum of days (facts_in (open_rows since rs)) ∙ same_sum since (day_weight of days) (shut_none since (day_weight of days) (day_nothing since days from of)) rs ∙ sym (day_sum of days (facts_in rs));
}

-- ---- rows

none_before : (from n : ℕ) (rs : List Row) → map (λ row. row.order) rs ≡ range_with_len from (length rs) → n < from → rows_at n rs ≡ []
none_before from n [] numbered before = refl
none_before from n (row ∷ rs) numbered before =
    let here : row.order ≡ from = cc in
    let behind : map (λ row. row.order) rs ≡ range_with_len (from + 1) (length rs) = cc in
    let other : (row.order == n) ≡ false = ne_eqb row.order n (λ e. absurd (omega (arith, e, here, before))) in
    ap (λ (t : Bool). if t then row ∷ rows_at n rs else rows_at n rs) other ∙ none_before (from + 1) n rs behind (omega (arith, before))

at_least : (from : ℕ) (rs : List Row) → map (λ row. row.order) rs ≡ range_with_len from (length rs) → AllByRecursion (λ row. from ≤ row.order) rs
at_least from [] numbered = tt
at_least from (row ∷ rs) numbered =
    let here : row.order ≡ from = cc in
    let behind : map (λ row. row.order) rs ≡ range_with_len (from + 1) (length rs) = cc in
    (omega (arith, here), each_map (λ r. from + 1 ≤ r.order) (λ r. from ≤ r.order) (λ r up. omega (arith, up)) rs (at_least (from + 1) rs behind))

-- each is the only one with its number
alone : (from : ℕ) (rs : List Row) → map (λ row. row.order) rs ≡ range_with_len from (length rs) → AllByRecursion (λ row. rows_at row.order rs ≡ row ∷ []) rs
alone from [] numbered = tt
alone from (row ∷ rs) numbered =
    let here : row.order ≡ from = cc in
    let behind : map (λ row. row.order) rs ≡ range_with_len (from + 1) (length rs) = cc in
    let own : (row.order == row.order) ≡ true = eq-eqb row.order row.order refl in (
      ap (λ (t : Bool). if t then row ∷ rows_at row.order rs else rows_at row.order rs) own ∙ ap (λ (xs : List Row). row ∷ xs) (none_before (from + 1) row.order rs behind (omega (arith, here))),
      each_both (λ r. rows_at r.order rs ≡ r ∷ []) (λ r. from + 1 ≤ r.order) (λ r. rows_at r.order (row ∷ rs) ≡ r ∷ [])
          (λ r one up. ap (λ (t : Bool). if t then row ∷ rows_at r.order rs else rows_at r.order rs) (ne_eqb row.order r.order (λ e. absurd (omega (arith, e, here, up)))) ∙ one) rs (alone (from + 1) rs behind) (at_least (from + 1) rs behind),
    )

at_most_one : (from n : ℕ) (rs : List Row) → map (λ row. row.order) rs ≡ range_with_len from (length rs) → length (rows_at n rs) ≤ 1
at_most_one from n [] numbered = omega arith
at_most_one from n (row ∷ rs) numbered = by (at_most_one (from + 1) n rs behind) (row.order == n) refl where
  behind : map (λ row. row.order) rs ≡ range_with_len (from + 1) (length rs)
  behind = cc

  here : row.order ≡ from
  here = cc

  by : length (rows_at n rs) ≤ 1 → (t : Bool) → (row.order == n) ≡ t → length (if t then row ∷ rows_at n rs else rows_at n rs) ≤ 1
  by rest true e =
      let is : row.order ≡ n = eqb-true row.order n e in
      let none : length (rows_at n rs) ≡ 0 = ap length (none_before (from + 1) n rs behind (omega (arith, is, here))) in
      omega (arith, none)
  by rest false e = rest

filters_swap : {X : Type 0} (p q : X → Bool) (xs : List X) → filter p (filter q xs) ≡ filter q (filter p xs)
filters_swap p q [] = refl
filters_swap {X} p q (x ∷ xs) = by (filters_swap p q xs) (p x) (q x) refl refl where
  by : filter p (filter q xs) ≡ filter q (filter p xs) → (s t : Bool) → p x ≡ s → q x ≡ t → filter p (if t then x ∷ filter q xs else filter q xs) ≡ filter q (if s then x ∷ filter p xs else filter p xs)
  by rest true true a b = ap (λ (u : Bool). if u then x ∷ filter p (filter q xs) else filter p (filter q xs)) a ∙ ap (λ (ys : List X). x ∷ ys) rest ∙ sym (ap (λ (u : Bool). if u then x ∷ filter q (filter p xs) else filter q (filter p xs)) b)
  by rest true false a b = rest ∙ sym (ap (λ (u : Bool). if u then x ∷ filter q (filter p xs) else filter q (filter p xs)) b)
  by rest false true a b = ap (λ (u : Bool). if u then x ∷ filter p (filter q xs) else filter p (filter q xs)) a ∙ rest
  by rest false false a b = rest

no_longer : {X : Type 0} (p : X → Bool) (xs : List X) → length (filter p xs) ≤ length xs
no_longer p [] = omega arith
no_longer {X} p (x ∷ xs) = by (no_longer p xs) (p x) where
  by : length (filter p xs) ≤ length xs → (t : Bool) → length (if t then x ∷ filter p xs else filter p xs) ≤ suc (length xs)
  by rest true = omega (arith, rest)
  by rest false = omega (arith, rest)

each_open : (P : Row → Type 0) (p : Row → Bool) (rs : List Row) → AllByRecursion P (filter p rs) → AllByRecursion (λ row. p row ≡ true → P row) rs
each_open P p [] each = tt
each_open P p (row ∷ rs) each = by (λ rest. each_open P p rs rest) (p row) refl each where
  by : (AllByRecursion P (filter p rs) → AllByRecursion (λ row. p row ≡ true → P row) rs) → (t : Bool) → p row ≡ t → AllByRecursion P (if t then row ∷ filter p rs else filter p rs) → (p row ≡ true → P row) × AllByRecursion (λ row. p row ≡ true → P row) rs
  by rest true e each = (λ is. each.0, rest each.1)
  by rest false e each = (λ is. absurd cc, rest each)

rows_wider : (since : ℕ) (m : OpenRows) (rs : List Row) → AreNumbered rs → AreRows since m (open_rows since rs) → AreRows since m rs
rows_wider since m rs numbered are = record {
  each = each_both (λ row. is_open_row since row ≡ true → IsKeptAs since row (row_in row.order m)) (λ row. rows_at row.order rs ≡ row ∷ []) (λ row. IsKeptAs since row (row_in row.order m)) wider rs
      (each_open (λ row. IsKeptAs since row (row_in row.order m)) (is_open_row since) rs are.each) (alone 1 rs numbered);
  once = λ q. whatever (length (rows_at q (open_rows since rs)) ≡ 1) (length (rows_at q rs) ≡ 1)
      (λ one.
      let same = ap length (filters_swap (λ row. row.order == q) (is_open_row since) rs) in
      let less = no_longer (is_open_row since) (rows_at q rs) in
      let most = at_most_one 1 q rs numbered in
      omega (arith, one, same, less, most)) (row_in q m) (are.once q);
  named = are.named;
} where
  shut : (row : Row) → rows_at row.order rs ≡ row ∷ [] → is_open_row since row ≡ false → (o : Option KnownRow) → row_in row.order m ≡ o → IsKeptAs since row o
  shut row own e None there = e
  shut row own e (Some k) there =
      let one : length (rows_at row.order (open_rows since rs)) ≡ 1 = subst (λ (o : Option KnownRow). IfSome o (λ k. length (rows_at row.order (open_rows since rs)) ≡ 1)) there (are.once row.order) in
      let same : length (rows_at row.order (open_rows since rs)) ≡ length (filter (is_open_row since) (row ∷ [])) = ap length (filters_swap (λ r. r.order == row.order) (is_open_row since) rs ∙ ap (filter (is_open_row since)) own) in
      let none : length (filter (is_open_row since) (row ∷ [])) ≡ 0 = ap (λ (t : Bool). length (if t then row ∷ [] else [])) e in
      absurd (omega (arith, one, same, none))

  wider : (row : Row) → (is_open_row since row ≡ true → IsKeptAs since row (row_in row.order m)) → rows_at row.order rs ≡ row ∷ [] → IsKeptAs since row (row_in row.order m)
  wider row opens own = by (is_open_row since row) refl where
    by : (t : Bool) → is_open_row since row ≡ t → IsKeptAs since row (row_in row.order m)
    by true e = opens e
    by false e = shut row own e (row_in row.order m) refl

pub wider : (m : Remembered) (rs : List Row) → AreNumbered rs → IsOf m (open_rows m.since rs) → IsOf m rs
wider m rs numbered is = record {
  sums = sums_wider m.since m.sums rs is.sums;
  rows = turned (λ kept. AreRows m.since kept (open_rows m.since rs)) (λ kept. AreRows m.since kept rs) (λ kept. rows_wider m.since kept rs numbered) m.rows is.rows;
}

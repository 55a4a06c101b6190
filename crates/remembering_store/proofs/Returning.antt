-- What is remembered of a company follows a return.
use Rattle.std.proofs.Common.{◌≡◌, ◌∙◌, refl, ap, sym, subst, ℕ, zero, suc, ◌+◌, ◌-◌, ◌<◌, ◌≤◌, Bool, true, false, List, [], ◌∷◌, map, zip, length, Option, Some, None, inl, inr, arith}
use Rattle.std.specs.Prelude.{sum_by, filter, not, ◌&&◌, ◌==◌, if◌then◌else◌, IfSome, bytes_eq, slice_get}
use Rattle.std.specs.List.{enumerate_from, flat_map, list_any, slice_set, AllByRecursion}
use Rattle.std.proofs.lemmas.Bool.{eqb-true, eqb-false, eq-eqb, ne_eqb, or_parts, or_from, leb-false}
use Rattle.std.proofs.lemmas.List.Sums.{sum_by-cons, sum_by-append}
use Rattle.desk_rules.specs.declared.bodies.submission.Entry.{Entry}
use Rattle.desk_rules.specs.declared.rules.entry_fact.EntryFact.{EntryFact}
use Rattle.desk_rules.specs.declared.rules.entry_fact.EntryState.{EntryState}
use Rattle.desk_rules.specs.declared.rules.entry_fact.EntryState.TheVariants.{Held, Sent, Returned, Lapsed}
use Rattle.desk_rules.specs.Exposure.{is_open_credit}
use Rattle.desk_rules.specs.LimitChecks.{is_debit}
use Rattle.desk_history.specs.Facts.{entry_fact}
use Rattle.desk_book.specs.declared.row.Row.{Row}
use Rattle.desk_book.specs.declared.flat_rows.ReturnedRow.{ReturnedRow}
use Rattle.desk_book.specs.Standing.{row_facts, facts_in, is_row_under}
use Rattle.desk_book.specs.Steps.{returned_row_by, returned_state_by}
use Rattle.desk_book.specs.OpenRows.{is_open_row}
use Rattle.remembering_store.specs.OpenSums.{is_held, settles_on, stands_on}
use Rattle.std.proofs.lemmas.Slice.Eq.{bytes_eq-Decides}
use Rattle.std.specs.Cmp.Lexicographic.{same_text}
use Rattle.remembering_store.specs.Kept.{held_in, settled_in, in_direction, if_on, ComesBack}
use Rattle.remembering_store.specs.OpenRows.{row_in, order_in, Puts, SameOrders, Leaves, NoneUnder, Returns}
use Rattle.remembering_store.specs.declared.sums.company_sums.Sums.{Sums}
use Rattle.remembering_store.specs.declared.sums.open_rows.OpenRows.{OpenRows}
use Rattle.desk_book.specs.OpenSubmissions.{cents_in, standing_cents}
use Rattle.remembering_store.specs.KnownRow.{KnownRow, Fits, place_of, cents_at, on_day, taken, once_taken, without}
use Rattle.remembering_store.specs.Laws.{in_state, rows_at, rows_under, numbered_fact}
use Rattle.remembering_store.specs.Remembered.{settled_of, AreSince, AreSums, AreRows, IsKeptAs, IsOf}
use Rattle.remembering_store.proofs.Changed.{returned_in, returned_in_row}
use Rattle.remembering_store.proofs.Following.{Stands, stands_at, rows_follow, each_mapped, as_many, whatever, turned}
use Rattle.remembering_store.proofs.ReadOff.{filtered}
use Rattle.remembering_store.proofs.Weights.{held_weight, day_weight, held_sum, day_sum, nothing, each_map, each_both, alike, alike_each, row_debit}

-- ---- what a return makes of a state

same_place : (x : ReturnedRow) (s : EntryState) → place_of (returned_state_by x s) ≡ place_of s
same_place x Held = refl
same_place x (Sent on) = refl
same_place x (Returned settled code back late) = refl
same_place x Lapsed = refl

same_held : (x : ReturnedRow) (s : EntryState) → is_held (returned_state_by x s) ≡ is_held s
same_held x Held = refl
same_held x (Sent on) = refl
same_held x (Returned settled code back late) = refl
same_held x Lapsed = refl

same_settles : (x : ReturnedRow) (days : ℕ → Bool) (s : EntryState) → settles_on days (returned_state_by x s) ≡ settles_on days s
same_settles x days Held = refl
same_settles x days (Sent on) = refl
same_settles x days (Returned settled code back late) = refl
same_settles x days Lapsed = refl

none_stands : (x : ReturnedRow) (days : ℕ → Bool) (s : EntryState) → stands_on days (returned_state_by x s) ≡ false
none_stands x days Held = refl
none_stands x days (Sent on) = refl
none_stands x days (Returned settled code back late) = refl
none_stands x days Lapsed = refl

same_open : (x : ReturnedRow) (since : ℕ) (s : EntryState) → is_open_credit (returned_state_by x s) since ≡ is_open_credit s since
same_open x since Held = refl
same_open x since (Sent on) = refl
same_open x since (Returned settled code back late) = refl
same_open x since Lapsed = refl

pub held_stays : (x : ReturnedRow) (of : Bool) (f : EntryFact) → held_weight of (in_state (returned_state_by x) f) ≡ held_weight of f
held_stays x true f i = if f.debit && same_held x f.state i then f.cents else 0
held_stays x false f i = if not f.debit && same_held x f.state i then f.cents else 0

pub credits_stay : (x : ReturnedRow) (days : ℕ → Bool) (f : EntryFact) → day_weight false days (in_state (returned_state_by x) f) ≡ day_weight false days f
credits_stay x days f i = if not f.debit && same_settles x days f.state i then f.cents else 0

and_not : (b : Bool) → (b && false) ≡ false
and_not true = refl
and_not false = refl

pub debits_go : (x : ReturnedRow) (days : ℕ → Bool) (f : EntryFact) → day_weight true days (in_state (returned_state_by x) f) ≡ 0
debits_go x days f = ap (λ (t : Bool). if f.debit && t then f.cents else 0) (none_stands x days f.state) ∙ ap (λ (t : Bool). if t then f.cents else 0) (and_not f.debit)

-- ---- the entry with a number

abbrev numbered : (index : ℕ) → ℕ → List EntryFact → List EntryFact
numbered index from fs = map (λ x. x.1) (filter (λ x. x.0 == index) (enumerate_from from fs))

-- where each counts nothing, so does that one
numbered_none : (count : EntryFact → ℕ) (index from : ℕ) (fs : List EntryFact) → AllByRecursion (λ f. count f ≡ 0) fs → sum_by count (numbered index from fs) ≡ 0
numbered_none count index from [] each = refl
numbered_none count index from (f ∷ fs) each = by (numbered_none count index (from + 1) fs each.1) (from == index) where
  by : sum_by count (numbered index (from + 1) fs) ≡ 0 → (t : Bool)
      → sum_by count (map (λ (x : ℕ × EntryFact). x.1) (if t then (from, f) ∷ filter (λ x. x.0 == index) (enumerate_from (from + 1) fs) else filter (λ x. x.0 == index) (enumerate_from (from + 1) fs))) ≡ 0
  by rest true = sum_by-cons count f (numbered index (from + 1) fs) ∙ (let here = each.0 in let e : count f + sum_by count (numbered index (from + 1) fs) ≡ 0 = omega (arith, here, rest) in e)
  by rest false = rest

-- past a number there is none
numbered_past : (count : EntryFact → ℕ) (index from : ℕ) (fs : List EntryFact) → index < from → sum_by count (numbered index from fs) ≡ 0
numbered_past count index from [] past = refl
numbered_past count index from (f ∷ fs) past =
    ap (λ (t : Bool). sum_by count (map (λ (x : ℕ × EntryFact). x.1) (if t then (from, f) ∷ filter (λ x. x.0 == index) (enumerate_from (from + 1) fs) else filter (λ x. x.0 == index) (enumerate_from (from + 1) fs)))) (ne_eqb from index (λ e. absurd (omega (arith, e, past))))
    ∙ numbered_past count index (from + 1) fs (omega (arith, past))

abbrev worth_cents : (days : ℕ → Bool) → (day : ℕ) → Option ℕ → ℕ
worth_cents days day None = 0
worth_cents days day (Some cents) = if_on days day cents

abbrev pub worth : (days : ℕ → Bool) → Option (ℕ × ℕ) → ℕ
worth days None = 0
worth days (Some x) = if_on days x.0 x.1

-- where each counts its standing cents on a day
numbered_is : (count : EntryFact → ℕ) (days : ℕ → Bool) (day index from : ℕ) (fs : List EntryFact) → AllByRecursion (λ f. count f ≡ if_on days day (standing_cents f)) fs → from ≤ index
    → sum_by count (numbered index from fs) ≡ worth_cents days day (slice_get (map standing_cents fs) (index - from))
numbered_is count days day index from [] each up = refl
numbered_is count days day index from (f ∷ fs) each up = by (λ below. numbered_is count days day index (from + 1) fs each.1 below) (from == index) refl where
  by : (from + 1 ≤ index → sum_by count (numbered index (from + 1) fs) ≡ worth_cents days day (slice_get (map standing_cents fs) (index - (from + 1)))) → (t : Bool) → (from == index) ≡ t
      → sum_by count (map (λ (x : ℕ × EntryFact). x.1) (if t then (from, f) ∷ filter (λ x. x.0 == index) (enumerate_from (from + 1) fs) else filter (λ x. x.0 == index) (enumerate_from (from + 1) fs)))
      ≡ worth_cents days day (slice_get (standing_cents f ∷ map standing_cents fs) (index - from))
  by rest true e =
      let is : from ≡ index = eqb-true from index e in
      let first : 0 ≡ index - from = omega (arith, is) in
      let past = numbered_past count index (from + 1) fs (omega (arith, is)) in
      sum_by-cons count f (numbered index (from + 1) fs)
      ∙ (let here = each.0 in let sum : count f + sum_by count (numbered index (from + 1) fs) ≡ if_on days day (standing_cents f) = omega (arith, here, past) in sum)
      ∙ ap (λ (n : ℕ). worth_cents days day (slice_get (standing_cents f ∷ map standing_cents fs) n)) first
  by rest false e =
      let other = eqb-false from index e in
      let next : suc (index - (from + 1)) ≡ index - from = omega (arith, other, up) in
      rest (omega (arith, other, up)) ∙ ap (λ (n : ℕ). worth_cents days day (slice_get (standing_cents f ∷ map standing_cents fs) n)) next

at_number : (count : EntryFact → ℕ) (days : ℕ → Bool) (day index : ℕ) (fs : List EntryFact) → AllByRecursion (λ f. count f ≡ if_on days day (standing_cents f)) fs
    → sum_by count (numbered index 1 fs) ≡ worth_cents days day (cents_at (map standing_cents fs) index)
at_number count days day index fs each = by (index == 0) refl where
  by : (t : Bool) → (index == 0) ≡ t → sum_by count (numbered index 1 fs) ≡ worth_cents days day (if t then None else slice_get (map standing_cents fs) (index - 1))
  by true e = let is : index ≡ 0 = eqb-true index 0 e in numbered_past count index 1 fs (omega (arith, is))
  by false e = let other = eqb-false index 0 e in numbered_is count days day index 1 fs each (omega (arith, other))

-- ---- what a row that is kept gives back

pub stands_by_cents : (days : ℕ → Bool) (day : ℕ) (debit prenote : Bool) (cents : ℕ) (s : EntryState) → debit ≡ true → place_of s ≡ Some (Some day)
    → day_weight true days (record { debit = debit; prenote = prenote; cents = cents; state = s }) ≡ if_on days day (cents_in s cents)
stands_by_cents days day debit prenote cents Held is there = absurd cc
stands_by_cents days day debit prenote cents (Sent on) is there =
    let same : on ≡ day = cc in
    ap (λ (d : Bool). if d && days on then cents else 0) is ∙ ap (λ (n : ℕ). if_on days n cents) same
stands_by_cents days day debit prenote cents (Returned settled code back late) is there = ap (λ (d : Bool). if d && false then cents else 0) is ∙ by (days day) where
  by : (t : Bool) → ◌≡◌ {A = ℕ} 0 (if t then 0 else 0)
  by true = refl
  by false = refl
stands_by_cents days day debit prenote cents Lapsed is there = absurd cc

pub credit_none : (days : ℕ → Bool) (f : EntryFact) → f.debit ≡ false → day_weight true days f ≡ 0
credit_none days f is = ap (λ (d : Bool). if d && stands_on days f.state then f.cents else 0) is

held_none : (days : ℕ → Bool) (debit prenote : Bool) (cents : ℕ) (s : EntryState) → place_of s ≡ Some None → day_weight true days (record { debit = debit; prenote = prenote; cents = cents; state = s }) ≡ 0
held_none days debit prenote cents Held is = ap (λ (t : Bool). if t then cents else 0) (and_not debit)
held_none days debit prenote cents (Sent on) is = absurd cc
held_none days debit prenote cents (Returned settled code back late) is = absurd cc
held_none days debit prenote cents Lapsed is = absurd cc

worth_on : (days : ℕ → Bool) (day : ℕ) (o : Option ℕ) → worth days (on_day (Some day) o) ≡ worth_cents days day o
worth_on days day None = refl
worth_on days day (Some cents) = refl

row_worth : (days : ℕ → Bool) (index : ℕ) (row : Row) (debit : Bool) (settled : Option ℕ) (cents : List ℕ)
    → is_debit row.content.direction ≡ debit → AllByRecursion (λ f. place_of f.state ≡ Some settled) (row_facts row) → (debit ≡ true → map standing_cents (row_facts row) ≡ cents)
    → sum_by (day_weight true days) (numbered_fact index row) ≡ worth days (if debit then on_day settled (cents_at cents index) else None)
row_worth days index row false settled cents is stands list =
    numbered_none (day_weight true days) index 1 (row_facts row) (each_map (λ f. f.debit ≡ is_debit row.content.direction) (λ f. day_weight true days f ≡ 0) (λ f way. credit_none days f (way ∙ is)) (row_facts row) (row_debit row))
row_worth days index row true None cents is stands list =
    numbered_none (day_weight true days) index 1 (row_facts row) (each_map (λ f. place_of f.state ≡ Some None) (λ f. day_weight true days f ≡ 0) (λ f there. held_none days f.debit f.prenote f.cents f.state there) (row_facts row) stands)
row_worth days index row true (Some day) cents is stands list =
    at_number (day_weight true days) days day index (row_facts row)
    (each_both (λ f. place_of f.state ≡ Some (Some day)) (λ f. f.debit ≡ is_debit row.content.direction) (λ f. day_weight true days f ≡ if_on days day (standing_cents f))
    (λ f there way. stands_by_cents days day f.debit f.prenote f.cents f.state (way ∙ is) there) (row_facts row) stands (row_debit row))
    ∙ ap (λ (cs : List ℕ). worth_cents days day (cents_at cs index)) (list refl) ∙ sym (worth_on days day (cents_at cents index))

pub known_worth : (days : ℕ → Bool) (index : ℕ) (k : KnownRow) (row : Row) → Fits k row → sum_by (day_weight true days) (numbered_fact index row) ≡ worth days (taken k index)
known_worth days index k row fits = row_worth days index row k.debit k.settled k.cents fits.debit fits.stands fits.cents

-- what settled before a day gives nothing back of later ones
module _ (since : ℕ) (days : ℕ → Bool) (from : AreSince since days) where
  shut_state : (s : EntryState) → is_open_credit s since ≡ false → stands_on days s ≡ false
  shut_state Held shut = refl
  shut_state (Sent on) shut = from on (leb-false since on shut)
  shut_state (Returned settled code back late) shut = refl
  shut_state Lapsed shut = refl

  shut_facts : (debit : Bool) (es : List Entry) (ss : List EntryState) → list_any (λ s. is_open_credit s since) ss ≡ false → AllByRecursion (λ f. day_weight true days f ≡ 0) (map (entry_fact debit) (zip es ss))
  shut_facts debit [] ss shut = tt
  shut_facts debit (e ∷ es) [] shut = tt
  shut_facts debit (e ∷ es) (s ∷ ss) shut =
      let parts = or_parts (is_open_credit s since) (list_any (λ s. is_open_credit s since) ss) shut in
      (ap (λ (t : Bool). if debit && t then e.cents else 0) (shut_state s parts.0) ∙ ap (λ (t : Bool). if t then e.cents else 0) (and_not debit), shut_facts debit es ss parts.1)

  pub shut_worth : (index : ℕ) (row : Row) → is_open_row since row ≡ false → sum_by (day_weight true days) (numbered_fact index row) ≡ 0
  shut_worth index row shut = numbered_none (day_weight true days) index 1 (row_facts row) (shut_facts (is_debit row.content.direction) row.content.entries row.states shut)

-- ---- the row after it

module _ (x : ReturnedRow) (debit : Bool) where
  abbrev facts : List Entry → List EntryState → List EntryFact
  facts es ss = map (entry_fact debit) (zip es ss)

  abbrev changed : ℕ → List EntryState → List EntryState
  changed from ss = map (λ y. if y.0 == x.row.index then returned_state_by x y.1 else y.1) (enumerate_from from ss)

  state_place : (t : Bool) (s : EntryState) → place_of (if t then returned_state_by x s else s) ≡ place_of s
  state_place true s = same_place x s
  state_place false s = refl

  places_stay : (on : Option (Option ℕ)) (from : ℕ) (es : List Entry) (ss : List EntryState) → AllByRecursion (λ f. place_of f.state ≡ on) (facts es ss) → AllByRecursion (λ f. place_of f.state ≡ on) (facts es (changed from ss))
  places_stay on from [] ss each = tt
  places_stay on from (e ∷ es) [] each = tt
  places_stay on from (e ∷ es) (s ∷ ss) each = (state_place (from == x.row.index) s ∙ each.0, places_stay on (from + 1) es ss each.1)

  held_state : (t : Bool) (cents : ℕ) (s : EntryState) → place_of s ≡ Some None → cents_in (if t then returned_state_by x s else s) cents ≡ cents_in s cents
  held_state true cents Held is = refl
  held_state false cents Held is = refl
  held_state t cents (Sent on) is = absurd cc
  held_state t cents (Returned settled code back late) is = absurd cc
  held_state t cents Lapsed is = absurd cc

  held_cents_stay : (from : ℕ) (es : List Entry) (ss : List EntryState) → AllByRecursion (λ f. place_of f.state ≡ Some None) (facts es ss) → map standing_cents (facts es (changed from ss)) ≡ map standing_cents (facts es ss)
  held_cents_stay from [] ss each = refl
  held_cents_stay from (e ∷ es) [] each = refl
  held_cents_stay from (e ∷ es) (s ∷ ss) each = let here = held_state (from == x.row.index) e.cents s each.0 in let rest = held_cents_stay (from + 1) es ss each.1 in (λ i. here i ∷ rest i)

  past_cents_stay : (from : ℕ) (es : List Entry) (ss : List EntryState) → x.row.index < from → map standing_cents (facts es (changed from ss)) ≡ map standing_cents (facts es ss)
  past_cents_stay from [] ss past = refl
  past_cents_stay from (e ∷ es) [] past = refl
  past_cents_stay from (e ∷ es) (s ∷ ss) past =
      let rest = past_cents_stay (from + 1) es ss (omega (arith, past)) in
      let here = ap (λ (t : Bool). cents_in (if t then returned_state_by x s else s) e.cents) (ne_eqb from x.row.index (λ e. absurd (omega (arith, e, past)))) in
      (λ i. here i ∷ rest i)

  gone : (cents day : ℕ) (s : EntryState) → place_of s ≡ Some (Some day) → cents_in (returned_state_by x s) cents ≡ 0
  gone cents day Held is = absurd cc
  gone cents day (Sent on) is = refl
  gone cents day (Returned settled code back late) is = refl
  gone cents day Lapsed is = absurd cc

  cents_without : (day from : ℕ) (es : List Entry) (ss : List EntryState) → AllByRecursion (λ f. place_of f.state ≡ Some (Some day)) (facts es ss) → from ≤ x.row.index
      → map standing_cents (facts es (changed from ss)) ≡ slice_set (map standing_cents (facts es ss)) (x.row.index - from) 0
  cents_without day from [] ss each up = refl
  cents_without day from (e ∷ es) [] each up = refl
  cents_without day from (e ∷ es) (s ∷ ss) each up = by (λ below. cents_without day (from + 1) es ss each.1 below) (λ past. past_cents_stay (from + 1) es ss past) (from == x.row.index) refl where
    by : (from + 1 ≤ x.row.index → map standing_cents (facts es (changed (from + 1) ss)) ≡ slice_set (map standing_cents (facts es ss)) (x.row.index - (from + 1)) 0)
        → (x.row.index < from + 1 → map standing_cents (facts es (changed (from + 1) ss)) ≡ map standing_cents (facts es ss))
        → (t : Bool) → (from == x.row.index) ≡ t
        → cents_in (if t then returned_state_by x s else s) e.cents ∷ map standing_cents (facts es (changed (from + 1) ss)) ≡ slice_set (cents_in s e.cents ∷ map standing_cents (facts es ss)) (x.row.index - from) 0
    by below past true e' =
        let is : from ≡ x.row.index = eqb-true from x.row.index e' in
        let first : 0 ≡ x.row.index - from = omega (arith, is) in
        let here = gone e.cents day s each.0 in
        let rest = past (omega (arith, is)) in
        (λ i. here i ∷ rest i) ∙ ap (λ (n : ℕ). slice_set (cents_in s e.cents ∷ map standing_cents (facts es ss)) n 0) first
    by below past false e' =
        let other = eqb-false from x.row.index e' in
        let next : suc (x.row.index - (from + 1)) ≡ x.row.index - from = omega (arith, other, up) in
        let rest = below (omega (arith, other, up)) in
        (λ i. cents_in s e.cents ∷ rest i) ∙ ap (λ (n : ℕ). slice_set (cents_in s e.cents ∷ map standing_cents (facts es ss)) n 0) next

set_past : (cs : List ℕ) (n : ℕ) → slice_get cs n ≡ None → slice_set cs n 0 ≡ cs
set_past [] n none = refl
set_past (c ∷ cs) zero none = absurd cc
set_past (c ∷ cs) (suc n) none = ap (λ (xs : List ℕ). c ∷ xs) (set_past cs n none)

-- its cents are those without the entry
cents_after : (index : ℕ) (k : KnownRow) (cs : List ℕ) (o : Option ℕ) (t : Bool) → (index == 0) ≡ t
    → (if t then None else slice_get k.cents (index - 1)) ≡ o → k.cents ≡ cs → (day : ℕ)
    → (if t then cs else slice_set cs (index - 1) 0) ≡ (without index (on_day (Some day) o) k).cents
cents_after index k cs None true e is same day = sym same
cents_after index k cs (Some c) true e is same day = absurd cc
cents_after index k cs None false e is same day = ap (λ (xs : List ℕ). slice_set xs (index - 1) 0) (sym same) ∙ set_past k.cents (index - 1) is
cents_after index k cs (Some c) false e is same day = ap (λ (xs : List ℕ). slice_set xs (index - 1) 0) (sym same)

-- ---- what is kept of the row fits it afterwards

without_same : (index : ℕ) (o : Option (ℕ × ℕ)) (k : KnownRow)
    → ((without index o k).reference ≡ k.reference) × ((without index o k).debit ≡ k.debit) × ((without index o k).settled ≡ k.settled) × ((without index o k).total ≡ k.total)
without_same index None k = (refl, refl, refl, refl)
without_same index (Some x) k = (refl, refl, refl, refl)

abbrev pub returned_there : ReturnedRow → Row → Row
returned_there x row = record row { states = map (λ y. if y.0 == x.row.index then returned_state_by x y.1 else y.1) (enumerate_from 1 row.states) }

module _ (x : ReturnedRow) (k : KnownRow) (row : Row) (fits : Fits k row) where
  cents_now : k.debit ≡ true → (settled : Option ℕ) → k.settled ≡ settled
      → map standing_cents (row_facts (returned_there x row)) ≡ (without x.row.index (on_day settled (cents_at k.cents x.row.index)) k).cents
  cents_now debit None is =
      held_cents_stay x (is_debit row.content.direction) 1 row.content.entries row.states
      (each_map (λ f. place_of f.state ≡ Some k.settled) (λ f. place_of f.state ≡ Some None) (λ f e. e ∙ ap Some is) (row_facts row) fits.stands)
      ∙ fits.cents debit
  cents_now debit (Some day) is = by (x.row.index == 0) refl ∙ cents_after x.row.index k (map standing_cents (row_facts row)) (cents_at k.cents x.row.index) (x.row.index == 0) refl refl (sym (fits.cents debit)) day where
    by : (t : Bool) → (x.row.index == 0) ≡ t → map standing_cents (row_facts (returned_there x row)) ≡ (if t then map standing_cents (row_facts row) else slice_set (map standing_cents (row_facts row)) (x.row.index - 1) 0)
    by true e = let none : x.row.index ≡ 0 = eqb-true x.row.index 0 e in past_cents_stay x (is_debit row.content.direction) 1 row.content.entries row.states (omega (arith, none))
    by false e =
        let some = eqb-false x.row.index 0 e in
        cents_without x (is_debit row.content.direction) day 1 row.content.entries row.states
        (each_map (λ f. place_of f.state ≡ Some k.settled) (λ f. place_of f.state ≡ Some (Some day)) (λ f e. e ∙ ap Some is) (row_facts row) fits.stands) (omega (arith, some))

  pub returned_fits : Fits (once_taken k x.row.index) (returned_there x row)
  returned_fits =
      let same = without_same x.row.index (taken k x.row.index) k in
      record {
        reference = fits.reference ∙ sym same.0;
        debit = fits.debit ∙ sym same.1;
        stands = subst (λ (o : Option ℕ). AllByRecursion (λ f. place_of f.state ≡ Some o) (row_facts (returned_there x row))) (sym same.2)
            (places_stay x (is_debit row.content.direction) (Some k.settled) 1 row.content.entries row.states fits.stands);
        total =
            let changed = returned_in_row x row (λ f. f.cents) in
            let e : sum_by (λ f. f.cents) (row_facts (returned_there x row)) ≡ sum_by (λ f. f.cents) (row_facts row) = omega (arith, changed) in
            e ∙ fits.total ∙ sym same.3;
        cents = λ debit.
            let was : k.debit ≡ true = sym same.1 ∙ debit in
            cents_now was k.settled refl
            ∙ ap (λ (t : Bool). (without x.row.index (if t then on_day k.settled (cents_at k.cents x.row.index) else None) k).cents) (sym was);
      }

-- ---- rows that a return leaves alone

zero_both : (t : Bool) → ◌≡◌ {A = ℕ} (if t then 0 else 0) 0
zero_both true = refl
zero_both false = refl

under_by : (x : ReturnedRow) (row : Row) (t : Bool) → is_row_under x.row.reference row ≡ t → returned_row_by x row ≡ (if t then returned_there x row else row)
under_by x row t e = ap (λ (u : Bool). if u then returned_there x row else row) e

pub order_stays : (x : ReturnedRow) (row : Row) → (returned_row_by x row).order ≡ row.order
order_stays x row = by (is_row_under x.row.reference row) where
  by : (t : Bool) → (if t then returned_there x row else row).order ≡ row.order
  by true = refl
  by false = refl

shut_stays : (x : ReturnedRow) (since from : ℕ) (ss : List EntryState) → list_any (λ s. is_open_credit s since) ss ≡ false
    → list_any (λ s. is_open_credit s since) (map (λ y. if y.0 == x.row.index then returned_state_by x y.1 else y.1) (enumerate_from from ss)) ≡ false
shut_stays x since from [] shut = refl
shut_stays x since from (s ∷ ss) shut =
    let parts = or_parts (is_open_credit s since) (list_any (λ s. is_open_credit s since) ss) shut in
    or_from _ _ (by (from == x.row.index) ∙ parts.0) (shut_stays x since (from + 1) ss parts.1) where
      by : (t : Bool) → is_open_credit (if t then returned_state_by x s else s) since ≡ is_open_credit s since
      by true = same_open x since s
      by false = refl

-- ---- of all rows

flat_sum : (count : EntryFact → ℕ) (p : Row → Bool) (named : Row → List EntryFact) (rs : List Row) → sum_by count (flat_map named (filter p rs)) ≡ sum_by (λ row. if p row then sum_by count (named row) else 0) rs
flat_sum count p named [] = refl
flat_sum count p named (row ∷ rs) = by (flat_sum count p named rs) (p row) ∙ sym (sum_by-cons (λ (r : Row). if p r then sum_by count (named r) else 0) row rs) where
  by : sum_by count (flat_map named (filter p rs)) ≡ sum_by (λ row. if p row then sum_by count (named row) else 0) rs
      → (t : Bool) → sum_by count (flat_map named (if t then row ∷ filter p rs else filter p rs)) ≡ (if t then sum_by count (named row) else 0) + sum_by (λ row. if p row then sum_by count (named row) else 0) rs
  by rest true = sum_by-append count (named row) (flat_map named (filter p rs)) ∙ ap (λ (n : ℕ). sum_by count (named row) + n) rest
  by rest false = omega (arith, rest)

one_counts : (n v : ℕ) (rs : List Row) (row : Row) → rows_at n rs ≡ row ∷ [] → sum_by (λ r. if r.order == n then v else 0) rs ≡ v
one_counts n v rs row is = sym (filtered (λ r. v) (λ r. r.order == n) rs) ∙ ap (sum_by (λ (r : Row). v)) is ∙ (let e : 0 + v ≡ v = omega arith in e)

-- what a return names is worth so much in each sum of days
abbrev pub IsWorth : (since : ℕ) → ReturnedRow → List Row → ((ℕ → Bool) → ℕ) → Type 0
IsWorth since x rs value = (days : ℕ → Bool) → AreSince since days → sum_by (day_weight true days) (flat_map (numbered_fact x.row.index) (rows_under x.row.reference rs)) ≡ value days

module _ (since : ℕ) (x : ReturnedRow) (old : OpenRows) (rs : List Row) (are : AreRows since old rs) where
  -- a row that goes by the reference is the one that it names
  under_named : (row : Row) (k : KnownRow) → row_in row.order old ≡ Some k → Fits k row → is_row_under x.row.reference row ≡ true → (order_in x.row.reference old ≡ Some row.order) × (k.reference ≡ x.row.reference)
  under_named row k there fits under =
      let text : row.content.reference ≡ x.row.reference = same_text row.content.reference x.row.reference (sym under) in
      let same : k.reference ≡ x.row.reference = sym fits.reference ∙ text in
      let name : order_in k.reference old ≡ Some row.order = subst (λ (o : Option KnownRow). IfSome o (λ k. order_in k.reference old ≡ Some row.order)) there (are.named row.order) in
      (ap (λ (t : List ℕ). order_in t old) (sym same) ∙ name, same)

  -- where the reference names none, a return changes nothing that counts
  module _ (none : NoneUnder x.row.reference old) where
    not_under : (row : Row) (k : KnownRow) → row_in row.order old ≡ Some k → Fits k row → is_row_under x.row.reference row ≡ false
    not_under row k there fits = by (is_row_under x.row.reference row) refl where
      by : (t : Bool) → is_row_under x.row.reference row ≡ t → t ≡ false
      by true e =
          let u = under_named row k there fits e in
          let no = none row.order k u.0 there in
          let yes : bytes_eq k.reference x.row.reference ≡ true = (bytes_eq-Decides k.reference x.row.reference).1 u.1 in
          absurd cc
      by false e = refl

    nothing_worth : IsWorth since x rs (λ days. 0)
    nothing_worth days from =
        flat_sum (day_weight true days) (is_row_under x.row.reference) (numbered_fact x.row.index) rs
        ∙ alike_each (λ row. if is_row_under x.row.reference row then sum_by (day_weight true days) (numbered_fact x.row.index row) else 0) (λ row. 0) rs (each_map (λ row. IsKeptAs since row (row_in row.order old)) (λ row. (if is_row_under x.row.reference row then sum_by (day_weight true days) (numbered_fact x.row.index row) else 0) ≡ 0) each_row rs are.each)
        ∙ nothing rs where
          each_row : (row : Row) → IsKeptAs since row (row_in row.order old) → (if is_row_under x.row.reference row then sum_by (day_weight true days) (numbered_fact x.row.index row) else 0) ≡ 0
          each_row row was = by (row_in row.order old) refl was where
            by : (o : Option KnownRow) → row_in row.order old ≡ o → IsKeptAs since row o → (if is_row_under x.row.reference row then sum_by (day_weight true days) (numbered_fact x.row.index row) else 0) ≡ 0
            by None e shut = ap (λ (n : ℕ). if is_row_under x.row.reference row then n else 0) (shut_worth since days from x.row.index row shut) ∙ zero_both (is_row_under x.row.reference row)
            by (Some k) e fits = ap (λ (t : Bool). if t then sum_by (day_weight true days) (numbered_fact x.row.index row) else 0) (not_under row k e fits)

    stays_kept : (row : Row) (o : Option KnownRow) → row_in row.order old ≡ o → IsKeptAs since row o → IsKeptAs since (returned_row_by x row) o
    stays_kept row None e shut = by (is_row_under x.row.reference row) where
      by : (t : Bool) → is_open_row since (if t then returned_there x row else row) ≡ false
      by true = shut_stays x since 1 row.states shut
      by false = shut
    stays_kept row (Some k) e fits = subst (λ (q : Row). Fits k q) (sym (under_by x row false (not_under row k e fits))) fits

    pub rows_left : (new : OpenRows) → Leaves old new → AreRows since new (map (returned_row_by x) rs)
    rows_left new leaves = record {
      each = each_mapped (λ row. IsKeptAs since row (row_in row.order new)) (returned_row_by x) rs
          (each_map (λ row. IsKeptAs since row (row_in row.order old)) (λ row. IsKeptAs since (returned_row_by x row) (row_in (returned_row_by x row).order new))
          (λ row was. subst (λ (o : Option KnownRow). IsKeptAs since (returned_row_by x row) o) (sym (ap (λ (m : ℕ). row_in m new) (order_stays x row) ∙ leaves.stays row.order)) (stays_kept row (row_in row.order old) refl was)) rs are.each);
      once = λ q. subst (λ (o : Option KnownRow). IfSome o (λ k. length (rows_at q (map (returned_row_by x) rs)) ≡ 1)) (sym (leaves.stays q))
          (whatever (length (rows_at q rs) ≡ 1) (length (rows_at q (map (returned_row_by x) rs)) ≡ 1) (λ one. as_many (returned_row_by x) (order_stays x) q rs ∙ one) (row_in q old) (are.once q));
      named = λ q. subst (λ (o : Option KnownRow). IfSome o (λ k. order_in k.reference new ≡ Some q)) (sym (leaves.stays q))
          (turned (λ k. order_in k.reference old ≡ Some q) (λ k. order_in k.reference new ≡ Some q) (λ k is. leaves.named k.reference ∙ is) (row_in q old) (are.named q));
    }

  -- where it names one, what is kept of that one follows
  module _ (n : ℕ) (k : KnownRow) (named_by : order_in x.row.reference old ≡ Some n) (stands : row_in n old ≡ Some k) (under : k.reference ≡ x.row.reference) where
    goes_by : (row : Row) → Fits k row → is_row_under x.row.reference row ≡ true
    goes_by row fits = (bytes_eq-Decides row.content.reference x.row.reference).1 (fits.reference ∙ under)

    only_one : (row : Row) (j : KnownRow) → row_in row.order old ≡ Some j → Fits j row → (row.order == n) ≡ false → is_row_under x.row.reference row ≡ false
    only_one row j there fits other = by (is_row_under x.row.reference row) refl where
      by : (t : Bool) → is_row_under x.row.reference row ≡ t → t ≡ false
      by true e =
          let u = under_named row j there fits e in
          let same : row.order ≡ n = cc in
          let yes = eq-eqb row.order n same in
          absurd cc
      by false e = refl

    taken_worth : IsWorth since x rs (λ days. worth days (taken k x.row.index))
    taken_worth days from =
        flat_sum (day_weight true days) (is_row_under x.row.reference) (numbered_fact x.row.index) rs
        ∙ alike_each (λ row. if is_row_under x.row.reference row then sum_by (day_weight true days) (numbered_fact x.row.index row) else 0) (λ row. if row.order == n then worth days (taken k x.row.index) else 0) rs
        (each_map (λ row. IsKeptAs since row (row_in row.order old)) (λ row. (if is_row_under x.row.reference row then sum_by (day_weight true days) (numbered_fact x.row.index row) else 0) ≡ (if row.order == n then worth days (taken k x.row.index) else 0)) each_row rs are.each)
        ∙ one_counts n (worth days (taken k x.row.index)) rs there.row there.is where
          there : Stands n k rs
          there = stands_at since n old k rs are stands

          each_row : (row : Row) → IsKeptAs since row (row_in row.order old) → (if is_row_under x.row.reference row then sum_by (day_weight true days) (numbered_fact x.row.index row) else 0) ≡ (if row.order == n then worth days (taken k x.row.index) else 0)
          each_row row was = by (row.order == n) refl where
            other : (o : Option KnownRow) → row_in row.order old ≡ o → IsKeptAs since row o → (row.order == n) ≡ false → (if is_row_under x.row.reference row then sum_by (day_weight true days) (numbered_fact x.row.index row) else 0) ≡ 0
            other None e shut apart = ap (λ (m : ℕ). if is_row_under x.row.reference row then m else 0) (shut_worth since days from x.row.index row shut) ∙ zero_both (is_row_under x.row.reference row)
            other (Some j) e fits apart = ap (λ (t : Bool). if t then sum_by (day_weight true days) (numbered_fact x.row.index row) else 0) (only_one row j e fits apart)

            by : (t : Bool) → (row.order == n) ≡ t → (if is_row_under x.row.reference row then sum_by (day_weight true days) (numbered_fact x.row.index row) else 0) ≡ (if t then worth days (taken k x.row.index) else 0)
            by true e =
                let at : row_in row.order old ≡ Some k = ap (λ (m : ℕ). row_in m old) (eqb-true row.order n e) ∙ stands in
                let fits : Fits k row = subst (λ (o : Option KnownRow). IsKeptAs since row o) at was in
                ap (λ (t : Bool). if t then sum_by (day_weight true days) (numbered_fact x.row.index row) else 0) (goes_by row fits) ∙ known_worth days x.row.index k row fits
            by false e = other (row_in row.order old) refl was e

    stays_other : (row : Row) (o : Option KnownRow) → row_in row.order old ≡ o → (row.order == n) ≡ false → IsKeptAs since row o → IsKeptAs since (returned_row_by x row) o
    stays_other row None e apart shut = by (is_row_under x.row.reference row) where
      by : (t : Bool) → is_open_row since (if t then returned_there x row else row) ≡ false
      by true = shut_stays x since 1 row.states shut
      by false = shut
    stays_other row (Some j) e apart fits = subst (λ (q : Row). Fits j q) (sym (under_by x row false (only_one row j e fits apart))) fits

    pub rows_returned : (new : OpenRows) → Puts n (Some (once_taken k x.row.index)) old new → SameOrders old new → AreRows since new (map (returned_row_by x) rs)
    rows_returned new puts same =
        rows_follow since n k (Some (once_taken k x.row.index)) old new (returned_row_by x) (record {
          orders = order_stays x;
          found = stands;
          puts = puts;
          same = same;
          reference = (without_same x.row.index (taken k x.row.index) k).0;
          here = λ row is fits. subst (λ (q : Row). Fits (once_taken k x.row.index) q) (sym (under_by x row true (goes_by row fits))) (returned_fits x k row fits);
          others = λ row apart was. stays_other row (row_in row.order old) refl apart was;
        }) rs are

-- ---- sums

pub sums_back : (since : ℕ) (x : ReturnedRow) (rs : List Row) (value : (ℕ → Bool) → ℕ) (s0 s1 : Sums) → IsWorth since x rs value
    → ((of : Bool) → held_in of s1 ≡ held_in of s0) → ((of : Bool) (days : ℕ → Bool) → settled_in of days s1 + in_direction true of (value days) ≡ settled_in of days s0)
    → AreSums since s0 rs → AreSums since s1 (map (returned_row_by x) rs)
sums_back since x rs value s0 s1 is held settled are = record {
  held = λ of.
      let changed = returned_in x rs (held_weight of) in
      let a = alike (λ f. held_weight of (in_state (returned_state_by x) f)) (held_weight of) (held_stays x of) (flat_map (numbered_fact x.row.index) (rows_under x.row.reference rs)) in
      let c = held of in
      let e = are.held of ∙ held_sum of (facts_in rs) in
      let f = held_sum of (facts_in (map (returned_row_by x) rs)) in
      omega (arith, changed, a, c, e, f);
  settled = by;
} where
  by : (of : Bool) (days : ℕ → Bool) → AreSince since days → settled_in of days s1 ≡ settled_of of days (facts_in (map (returned_row_by x) rs))
  by true days from =
      let changed = returned_in x rs (day_weight true days) in
      let a = is days from in
      let b = alike (λ f. day_weight true days (in_state (returned_state_by x) f)) (λ f. 0) (debits_go x days) (flat_map (numbered_fact x.row.index) (rows_under x.row.reference rs)) ∙ nothing (flat_map (numbered_fact x.row.index) (rows_under x.row.reference rs)) in
      let c = settled true days in
      let e = are.settled true days from ∙ day_sum true days (facts_in rs) in
      let f = day_sum true days (facts_in (map (returned_row_by x) rs)) in
      omega (arith, changed, a, b, c, e, f)
  by false days from =
      let changed = returned_in x rs (day_weight false days) in
      let a = alike (λ f. day_weight false days (in_state (returned_state_by x) f)) (day_weight false days) (credits_stay x days) (flat_map (numbered_fact x.row.index) (rows_under x.row.reference rs)) in
      let c = settled false days in
      let e = are.settled false days from ∙ day_sum false days (facts_in rs) in
      let f = day_sum false days (facts_in (map (returned_row_by x) rs)) in
      omega (arith, changed, a, c, e, f)

-- ---- both

none_in : (of : Bool) (n : ℕ) → n + in_direction true of 0 ≡ n
none_in true n = omega arith
none_in false n = omega arith

pub none_followed : (since : ℕ) (x : ReturnedRow) (s0 : Sums) (old new : OpenRows) (rs : List Row) → Returns x.row.reference x.row.index None old new
    → IsOf (record { since = since; sums = s0; rows = Some old }) rs → IsOf (record { since = since; sums = s0; rows = Some new }) (map (returned_row_by x) rs)
none_followed since x s0 old new rs (inl left) is = record {
  sums = sums_back since x rs (λ days. 0) s0 s0 (nothing_worth since x old rs is.rows left.1) (λ of. refl) (λ of days. none_in of (settled_in of days s0)) is.sums;
  rows = rows_left since x old rs is.rows left.1 new left.2;
}
none_followed since x s0 old new rs (inr t) is = record {
  sums = sums_back since x rs (λ days. worth days (taken t.row x.row.index)) s0 s0 (taken_worth since x old rs is.rows t.order t.row t.named_by t.stands t.under) (λ of. refl)
      (λ of days. ap (λ (o : Option (ℕ × ℕ)). settled_in of days s0 + in_direction true of (worth days o)) (sym t.is) ∙ none_in of (settled_in of days s0)) is.sums;
  rows = rows_returned since x old rs is.rows t.order t.row t.named_by t.stands t.under new t.puts t.named;
}

pub some_followed : (since : ℕ) (p : ℕ × ℕ) (x : ReturnedRow) (s0 s1 : Sums) (old new : OpenRows) (rs : List Row) → Returns x.row.reference x.row.index (Some p) old new → (cents : ℕ) → cents ≡ p.1 → ComesBack p.0 cents s0 s1
    → IsOf (record { since = since; sums = s0; rows = Some old }) rs → IsOf (record { since = since; sums = s1; rows = Some new }) (map (returned_row_by x) rs)
some_followed since p x s0 s1 old new rs (inl left) cents same back is = absurd (let e = left.0 in cc)
some_followed since p x s0 s1 old new rs (inr t) cents same back is = record {
  sums = sums_back since x rs (λ days. worth days (taken t.row x.row.index)) s0 s1 (taken_worth since x old rs is.rows t.order t.row t.named_by t.stands t.under) back.held
      (λ of days. ap (λ (o : Option (ℕ × ℕ)). settled_in of days s1 + in_direction true of (worth days o)) (sym t.is)
      ∙ ap (λ (n : ℕ). settled_in of days s1 + in_direction true of (if_on days p.0 n)) (sym same) ∙ back.settled of days) is.sums;
  rows = rows_returned since x old rs is.rows t.order t.row t.named_by t.stands t.under new t.puts t.named;
}

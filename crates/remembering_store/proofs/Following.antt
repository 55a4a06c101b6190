-- What is remembered of a company follows a cut.
use Rattle.std.proofs.Common.{◌≡◌, ◌∙◌, refl, ap, sym, subst, ℕ, suc, Bool, true, false, List, [], ◌∷◌, map, length, Option, Some, None, arith}
use Rattle.std.specs.Prelude.{sum_by, ◌==◌, if◌then◌else◌, IfSome}
use Rattle.std.proofs.lemmas.Bool.{eqb-true, eq-eqb}
use Rattle.std.proofs.lemmas.List.{append-nil}
use Rattle.std.specs.List.{list_any, AllByRecursion}
use Rattle.desk_rules.specs.declared.rules.entry_fact.EntryFact.{EntryFact}
use Rattle.desk_rules.specs.declared.rules.entry_fact.EntryState.{EntryState}
use Rattle.desk_rules.specs.declared.rules.entry_fact.EntryState.TheVariants.{Held, Sent, Returned, Lapsed}
use Rattle.desk_rules.specs.Exposure.{is_open_credit}
use Rattle.desk_rules.specs.LimitChecks.{is_debit}
use Rattle.desk_book.specs.declared.row.Row.{Row}
use Rattle.desk_book.specs.Standing.{row_facts, facts_in, sent_row, lapsed_row}
use Rattle.desk_book.specs.Steps.{if_order}
use Rattle.desk_book.specs.OpenRows.{is_open_row}
use Rattle.remembering_store.specs.Kept.{in_direction, if_on, Lets, Settles}
use Rattle.desk_book.specs.OpenSubmissions.{cents_in, standing_cents}
use Rattle.remembering_store.specs.KnownRow.{KnownRow, Fits, place_of}
use Rattle.remembering_store.specs.Laws.{in_state, rows_at}
use Rattle.remembering_store.specs.OpenRows.{row_in, order_in, Puts, SameOrders, Sends, Lapses}
use Rattle.remembering_store.specs.Remembered.{AreSums, AreRows, IsKeptAs, IsOf}
use Rattle.remembering_store.specs.declared.sums.company_sums.Sums.{Sums}
use Rattle.remembering_store.specs.declared.sums.open_rows.OpenRows.{OpenRows}
use Rattle.remembering_store.specs.declared.sums.remembered.Remembered.{Remembered}
use Rattle.remembering_store.proofs.Changed.{sent_in, lapsed_in, all_in_state, sum-map}
use Rattle.remembering_store.proofs.Weights.{held_weight, day_weight, held_sum, day_sum, alike, nothing, each_map, held_row_holds, held_row_settles_none, sent_row_settles, sent_holds_none, lapsed_holds_none, lapsed_settles_none}

-- ---- the row of an order number

single : (rs : List Row) → length rs ≡ 1 → (row : Row) × (rs ≡ row ∷ [])
single [] one = absurd (omega (arith, one))
single (row ∷ []) one = (row, refl)
single (row ∷ other ∷ rs) one = absurd (omega (arith, one))

each_at : (since n : ℕ) (m : OpenRows) (rs : List Row) → AllByRecursion (λ row. IsKeptAs since row (row_in row.order m)) rs → AllByRecursion (λ row. IsKeptAs since row (row_in n m)) (rows_at n rs)
each_at since n m [] each = tt
each_at since n m (row ∷ rs) each = by (each_at since n m rs each.1) (row.order == n) refl where
  by : AllByRecursion (λ row. IsKeptAs since row (row_in n m)) (rows_at n rs) → (t : Bool) → (row.order == n) ≡ t
      → AllByRecursion (λ row. IsKeptAs since row (row_in n m)) (if t then row ∷ rows_at n rs else rows_at n rs)
  by rest true e = (subst (λ (o : ℕ). IsKeptAs since row (row_in o m)) (eqb-true row.order n e) each.0, rest)
  by rest false e = rest

-- exactly one, which fits what is kept under the number
pub record Stands (n : ℕ) (k : KnownRow) (rs : List Row) : Type 0 where
  pub row : Row
  pub is : rows_at n rs ≡ row ∷ []
  pub fits : Fits k row

pub stands_at : (since n : ℕ) (m : OpenRows) (k : KnownRow) (rs : List Row) → AreRows since m rs → row_in n m ≡ Some k → Stands n k rs
stands_at since n m k rs are found =
    let one : length (rows_at n rs) ≡ 1 = subst (λ (o : Option KnownRow). IfSome o (λ k. length (rows_at n rs) ≡ 1)) found (are.once n) in
    let s = single (rows_at n rs) one in
    let each : AllByRecursion (λ row. IsKeptAs since row (row_in n m)) (s.0 ∷ []) = subst (λ (xs : List Row). AllByRecursion (λ row. IsKeptAs since row (row_in n m)) xs) s.1 (each_at since n m rs are.each) in
    record { row = s.0; is = s.1; fits = subst (λ (o : Option KnownRow). IsKeptAs since s.0 o) found each.0 }

pub one_row : (n : ℕ) (rs : List Row) (row : Row) → rows_at n rs ≡ row ∷ [] → facts_in (rows_at n rs) ≡ row_facts row
one_row n rs row is = ap facts_in is ∙ append-nil (row_facts row)

-- ---- sums

module _ (since n : ℕ) (k : KnownRow) (rs : List Row) (there : Stands n k rs) (held : k.settled ≡ None) where
  states : AllByRecursion (λ f. place_of f.state ≡ Some None) (row_facts there.row)
  states = each_map (λ f. place_of f.state ≡ Some k.settled) (λ f. place_of f.state ≡ Some None) (λ f e. e ∙ ap Some held) (row_facts there.row) there.fits.stands

  was_held : (of : Bool) → sum_by (held_weight of) (facts_in (rows_at n rs)) ≡ in_direction k.debit of k.total
  was_held of =
      ap (sum_by (held_weight of)) (one_row n rs there.row there.is) ∙ held_row_holds there.row states of
      ∙ ap (λ (d : Bool). in_direction d of (sum_by (λ f. f.cents) (row_facts there.row))) there.fits.debit ∙ ap (in_direction k.debit of) there.fits.total

  had_settled_none : (of : Bool) (days : ℕ → Bool) → sum_by (day_weight of days) (facts_in (rows_at n rs)) ≡ 0
  had_settled_none of days = ap (sum_by (day_weight of days)) (one_row n rs there.row there.is) ∙ held_row_settles_none there.row states of days

  pub sums_sent : (day : ℕ) (s0 s1 s2 : Sums) → Lets k.debit k.total s0 s1 → Settles k.debit day k.total s1 s2
      → AreSums since s0 rs → AreSums since s2 (map (if_order n (sent_row day)) rs)
  sums_sent day s0 s1 s2 lets settles are = record {
    held = λ of.
        let changed = sent_in n day rs (held_weight of) in
        let a = was_held of in
        let b = alike (λ f. held_weight of (in_state (λ was. Sent day) f)) (λ f. 0) (sent_holds_none of day) (facts_in (rows_at n rs)) ∙ nothing (facts_in (rows_at n rs)) in
        let c = lets.held of in
        let d = settles.held of in
        let e = are.held of ∙ held_sum of (facts_in rs) in
        let f = held_sum of (facts_in (map (if_order n (sent_row day)) rs)) in
        omega (arith, changed, a, b, c, d, e, f);
    settled = λ of days from.
        let changed = sent_in n day rs (day_weight of days) in
        let a = had_settled_none of days in
        let b : sum_by (λ f. day_weight of days (in_state (λ was. Sent day) f)) (facts_in (rows_at n rs)) ≡ in_direction k.debit of (if_on days day k.total) =
        ap (sum_by (λ f. day_weight of days (in_state (λ was. Sent day) f))) (one_row n rs there.row there.is) ∙ sent_row_settles there.row of days day
        ∙ ap (λ (d : Bool). in_direction d of (if_on days day (sum_by (λ f. f.cents) (row_facts there.row)))) there.fits.debit
        ∙ ap (λ (cents : ℕ). in_direction k.debit of (if_on days day cents)) there.fits.total in
        let c = lets.settled of days in
        let d = settles.settled of days in
        let e = are.settled of days from ∙ day_sum of days (facts_in rs) in
        let f = day_sum of days (facts_in (map (if_order n (sent_row day)) rs)) in
        omega (arith, changed, a, b, c, d, e, f);
  }

  pub sums_lapsed : (s0 s1 : Sums) → Lets k.debit k.total s0 s1 → AreSums since s0 rs → AreSums since s1 (map (if_order n lapsed_row) rs)
  sums_lapsed s0 s1 lets are = record {
    held = λ of.
        let changed = lapsed_in n rs (held_weight of) in
        let a = was_held of in
        let b = alike (λ f. held_weight of (in_state (λ was. Lapsed) f)) (λ f. 0) (lapsed_holds_none of) (facts_in (rows_at n rs)) ∙ nothing (facts_in (rows_at n rs)) in
        let c = lets.held of in
        let e = are.held of ∙ held_sum of (facts_in rs) in
        let f = held_sum of (facts_in (map (if_order n lapsed_row) rs)) in
        omega (arith, changed, a, b, c, e, f);
    settled = λ of days from.
        let changed = lapsed_in n rs (day_weight of days) in
        let a = had_settled_none of days in
        let b = alike (λ f. day_weight of days (in_state (λ was. Lapsed) f)) (λ f. 0) (lapsed_settles_none of days) (facts_in (rows_at n rs)) ∙ nothing (facts_in (rows_at n rs)) in
        let c = lets.settled of days in
        let e = are.settled of days from ∙ day_sum of days (facts_in rs) in
        let f = day_sum of days (facts_in (map (if_order n lapsed_row) rs)) in
        omega (arith, changed, a, b, c, e, f);
  }

-- ---- rows

pub each_mapped : (P : Row → Type 0) (g : Row → Row) (rs : List Row) → AllByRecursion (λ row. P (g row)) rs → AllByRecursion P (map g rs)
each_mapped P g [] each = tt
each_mapped P g (row ∷ rs) each = (each.0, each_mapped P g rs each.1)

pub as_many : (g : Row → Row) → ((row : Row) → (g row).order ≡ row.order) → (n : ℕ) (rs : List Row) → length (rows_at n (map g rs)) ≡ length (rows_at n rs)
as_many g orders n [] = refl
as_many g orders n (row ∷ rs) = ap (λ (o : ℕ). length (if o == n then g row ∷ rows_at n (map g rs) else rows_at n (map g rs))) (orders row) ∙ by (as_many g orders n rs) (row.order == n) where
  by : length (rows_at n (map g rs)) ≡ length (rows_at n rs) → (t : Bool) → length (if t then g row ∷ rows_at n (map g rs) else rows_at n (map g rs)) ≡ length (if t then row ∷ rows_at n rs else rows_at n rs)
  by rest true = ap suc rest
  by rest false = rest

pub whatever : {A : Type 0} (P Q : Type 0) → (P → Q) → (o : Option A) → IfSome o (λ x. P) → IfSome o (λ x. Q)
whatever P Q turn None is = tt
whatever P Q turn (Some x) is = turn is

always : {A : Type 0} (P : Type 0) → P → (o : Option A) → IfSome o (λ x. P)
always P is None = tt
always P is (Some x) = is

pub turned : {A : Type 0} (P Q : A → Type 0) → ((x : A) → P x → Q x) → (o : Option A) → IfSome o P → IfSome o Q
turned P Q turn None is = tt
turned P Q turn (Some x) is = turn x is

-- each row keeps its number, one is kept otherwise, and all others are kept as they were
pub record Follows (since n : ℕ) (k : KnownRow) (kept : Option KnownRow) (old new : OpenRows) (g : Row → Row) : Type 0 where
  pub orders : (row : Row) → (g row).order ≡ row.order
  pub found : row_in n old ≡ Some k
  pub puts : Puts n kept old new
  pub same : SameOrders old new
  pub reference : IfSome kept (λ x. x.reference ≡ k.reference)
  pub here : (row : Row) → row.order ≡ n → Fits k row → IsKeptAs since (g row) kept
  pub others : (row : Row) → (row.order == n) ≡ false → IsKeptAs since row (row_in row.order old) → IsKeptAs since (g row) (row_in row.order old)

module _ (since n : ℕ) (k : KnownRow) (kept : Option KnownRow) (old new : OpenRows) (g : Row → Row) (f : Follows since n k kept old new g) where
  follow_row : (row : Row) → IsKeptAs since row (row_in row.order old) → IsKeptAs since (g row) (row_in (g row).order new)
  follow_row row was = by (row.order == n) refl where
    by : (t : Bool) → (row.order == n) ≡ t → IsKeptAs since (g row) (row_in (g row).order new)
    by true e =
        let o : row.order ≡ n = eqb-true row.order n e in
        let there : row_in row.order old ≡ Some k = ap (λ (m : ℕ). row_in m old) o ∙ f.found in
        let fits : Fits k row = subst (λ (x : Option KnownRow). IsKeptAs since row x) there was in
        let now : row_in (g row).order new ≡ kept = ap (λ (m : ℕ). row_in m new) (f.orders row) ∙ f.puts row.order ∙ ap (λ (t : Bool). if t then kept else row_in row.order old) e in
        subst (λ (x : Option KnownRow). IsKeptAs since (g row) x) (sym now) (f.here row o fits)
    by false e =
        let now : row_in (g row).order new ≡ row_in row.order old = ap (λ (m : ℕ). row_in m new) (f.orders row) ∙ f.puts row.order ∙ ap (λ (t : Bool). if t then kept else row_in row.order old) e in
        subst (λ (x : Option KnownRow). IsKeptAs since (g row) x) (sym now) (f.others row e was)

  pub rows_follow : (rs : List Row) → AreRows since old rs → AreRows since new (map g rs)
  rows_follow rs are = record {
    each = each_mapped (λ row. IsKeptAs since row (row_in row.order new)) g rs (each_map _ _ follow_row rs are.each);
    once = λ q. subst (λ (o : Option KnownRow). IfSome o (λ x. length (rows_at q (map g rs)) ≡ 1)) (sym (f.puts q)) (once_by q (q == n) refl);
    named = λ q. subst (λ (o : Option KnownRow). IfSome o (λ x. order_in x.reference new ≡ Some q)) (sym (f.puts q)) (named_by q (q == n) refl);
  } where
    once_by : (q : ℕ) (t : Bool) → (q == n) ≡ t → IfSome (if t then kept else row_in q old) (λ x. length (rows_at q (map g rs)) ≡ 1)
    once_by q true e =
        let o : q ≡ n = eqb-true q n e in
        let one : length (rows_at n rs) ≡ 1 = subst (λ (x : Option KnownRow). IfSome x (λ k. length (rows_at n rs) ≡ 1)) f.found (are.once n) in
        always (length (rows_at q (map g rs)) ≡ 1) (as_many g f.orders q rs ∙ ap (λ (m : ℕ). length (rows_at m rs)) o ∙ one) kept
    once_by q false e = whatever (length (rows_at q rs) ≡ 1) (length (rows_at q (map g rs)) ≡ 1) (λ one. as_many g f.orders q rs ∙ one) (row_in q old) (are.once q)

    named_by : (q : ℕ) (t : Bool) → (q == n) ≡ t → IfSome (if t then kept else row_in q old) (λ x. order_in x.reference new ≡ Some q)
    named_by q true e =
        let o : q ≡ n = eqb-true q n e in
        let name : order_in k.reference old ≡ Some n = subst (λ (x : Option KnownRow). IfSome x (λ k. order_in k.reference old ≡ Some n)) f.found (are.named n) in
        turned (λ x. x.reference ≡ k.reference) (λ x. order_in x.reference new ≡ Some q) (λ x is. f.same x.reference ∙ ap (λ (r : List ℕ). order_in r old) is ∙ name ∙ ap Some (sym o)) kept f.reference
    named_by q false e = turned (λ x. order_in x.reference old ≡ Some q) (λ x. order_in x.reference new ≡ Some q) (λ x is. f.same x.reference ∙ is) (row_in q old) (are.named q)

-- ---- a submission that is sent, and one that lapses

pub if_order_keeps : (n : ℕ) (change : Row → Row) → ((row : Row) → (change row).order ≡ row.order) → (row : Row) → (if_order n change row).order ≡ row.order
if_order_keeps n change keeps row = by (row.order == n) where
  by : (t : Bool) → (if t then change row else row).order ≡ row.order
  by true = keeps row
  by false = refl

if_order_here : (n : ℕ) (change : Row → Row) (row : Row) → row.order ≡ n → if_order n change row ≡ change row
if_order_here n change row is = ap (λ (t : Bool). if t then change row else row) (eq-eqb row.order n is)

if_order_other : (n : ℕ) (change : Row → Row) (row : Row) → (row.order == n) ≡ false → if_order n change row ≡ row
if_order_other n change row other = ap (λ (t : Bool). if t then change row else row) other

held_cents : (s : EntryState) (cents : ℕ) → place_of s ≡ Some None → cents_in s cents ≡ cents
held_cents Held cents is = refl
held_cents (Sent settled) cents is = refl
held_cents (Returned settled code taken late) cents is = absurd cc
held_cents Lapsed cents is = refl

each_state : (on : Option (Option ℕ)) (s : EntryState) (fs : List EntryFact) → place_of s ≡ on → AllByRecursion (λ f. place_of f.state ≡ on) (map (in_state (λ was. s)) fs)
each_state on s [] is = tt
each_state on s (f ∷ fs) is = (is, each_state on s fs is)

standing_sent : (day : ℕ) (fs : List EntryFact) → AllByRecursion (λ f. place_of f.state ≡ Some None) fs → map standing_cents (map (in_state (λ was. Sent day)) fs) ≡ map standing_cents fs
standing_sent day [] held = refl
standing_sent day (f ∷ fs) held = let rest = standing_sent day fs held.1 in let here = held_cents f.state f.cents held.0 in cc

pub sent_fits : (day : ℕ) (k : KnownRow) (row : Row) → k.settled ≡ None → Fits k row → Fits (record k { settled = Some day }) (sent_row day row)
sent_fits day k row held fits =
    let facts : row_facts (sent_row day row) ≡ map (in_state (λ was. Sent day)) (row_facts row) = all_in_state (λ was. Sent day) (is_debit row.content.direction) row.content.entries row.states in
    let states : AllByRecursion (λ f. place_of f.state ≡ Some None) (row_facts row) = each_map (λ f. place_of f.state ≡ Some k.settled) (λ f. place_of f.state ≡ Some None) (λ f e. e ∙ ap Some held) (row_facts row) fits.stands in
    record {
      reference = fits.reference;
      debit = fits.debit;
      stands = subst (λ (fs : List EntryFact). AllByRecursion (λ f. place_of f.state ≡ Some (Some day)) fs) (sym facts) (each_state (Some (Some day)) (Sent day) (row_facts row) refl);
      total = ap (sum_by (λ f. f.cents)) facts ∙ sum-map (λ f. f.cents) (in_state (λ was. Sent day)) (row_facts row) ∙ fits.total;
      cents = λ debit. ap (map standing_cents) facts ∙ standing_sent day (row_facts row) states ∙ fits.cents debit;
    }

pub rows_sent : (since n day : ℕ) (debit : Bool) (cents : ℕ) (old new : OpenRows) (rs : List Row) → Sends n day debit cents old new → AreRows since old rs → AreRows since new (map (if_order n (sent_row day)) rs)
rows_sent since n day debit cents old new rs sends are =
    rows_follow since n sends.row (Some (record sends.row { settled = Some day })) old new (if_order n (sent_row day)) (record {
      orders = if_order_keeps n (sent_row day) (λ row. refl);
      found = sends.found.stands;
      puts = sends.puts;
      same = sends.named;
      reference = refl;
      here = λ row is fits. subst (λ (r : Row). Fits (record sends.row { settled = Some day }) r) (sym (if_order_here n (sent_row day) row is)) (sent_fits day sends.row row sends.found.held fits);
      others = λ row other was. subst (λ (r : Row). IsKeptAs since r (row_in row.order old)) (sym (if_order_other n (sent_row day) row other)) was;
    }) rs are

lapsed_shut : (since : ℕ) (ss : List EntryState) → list_any (λ s. is_open_credit s since) (map (λ s. Lapsed) ss) ≡ false
lapsed_shut since [] = refl
lapsed_shut since (s ∷ ss) = lapsed_shut since ss

pub rows_lapsed : (since n : ℕ) (debit : Bool) (cents : ℕ) (old new : OpenRows) (rs : List Row) → Lapses n debit cents old new → AreRows since old rs → AreRows since new (map (if_order n lapsed_row) rs)
rows_lapsed since n debit cents old new rs lapses are =
    rows_follow since n lapses.row None old new (if_order n lapsed_row) (record {
      orders = if_order_keeps n lapsed_row (λ row. refl);
      found = lapses.found.stands;
      puts = lapses.puts;
      same = lapses.named;
      reference = tt;
      here = λ row is fits. subst (λ (r : Row). is_open_row since r ≡ false) (sym (if_order_here n lapsed_row row is)) (lapsed_shut since row.states);
      others = λ row other was. subst (λ (r : Row). IsKeptAs since r (row_in row.order old)) (sym (if_order_other n lapsed_row row other)) was;
    }) rs are

-- ---- both

-- where rows are kept one by one, these are right
pub kept_right : (m : Remembered) (kept : OpenRows) (rs : List Row) → m.rows ≡ Some kept → IsOf m rs → IsOf (record { since = m.since; sums = m.sums; rows = Some kept }) rs
kept_right m kept rs is right = record { sums = right.sums; rows = subst (λ (o : Option OpenRows). IfSome o (λ k. AreRows m.since k rs)) is right.rows }

pub sent_followed : (since n day : ℕ) (debit : Bool) (cents : ℕ) (s0 s1 s2 : Sums) (old new : OpenRows) (rs : List Row)
    → Sends n day debit cents old new → Lets debit cents s0 s1 → Settles debit day cents s1 s2
    → IsOf (record { since = since; sums = s0; rows = Some old }) rs → IsOf (record { since = since; sums = s2; rows = Some new }) (map (if_order n (sent_row day)) rs)
sent_followed since n day debit cents s0 s1 s2 old new rs sends lets settles is =
    let k = sends.row in
    let there = stands_at since n old k rs is.rows sends.found.stands in
    let lets_it : Lets k.debit k.total s0 s1 = subst (λ (c : ℕ). Lets k.debit c s0 s1) (sym sends.found.is.1) (subst (λ (d : Bool). Lets d cents s0 s1) (sym sends.found.is.0) lets) in
    let settles_it : Settles k.debit day k.total s1 s2 = subst (λ (c : ℕ). Settles k.debit day c s1 s2) (sym sends.found.is.1) (subst (λ (d : Bool). Settles d day cents s1 s2) (sym sends.found.is.0) settles) in
    record {
      sums = sums_sent since n k rs there sends.found.held day s0 s1 s2 lets_it settles_it is.sums;
      rows = rows_sent since n day debit cents old new rs sends is.rows;
    }

pub lapsed_followed : (since n : ℕ) (debit : Bool) (cents : ℕ) (s0 s1 : Sums) (old new : OpenRows) (rs : List Row)
    → Lapses n debit cents old new → Lets debit cents s0 s1
    → IsOf (record { since = since; sums = s0; rows = Some old }) rs → IsOf (record { since = since; sums = s1; rows = Some new }) (map (if_order n lapsed_row) rs)
lapsed_followed since n debit cents s0 s1 old new rs lapses lets is =
    let k = lapses.row in
    let there = stands_at since n old k rs is.rows lapses.found.stands in
    let lets_it : Lets k.debit k.total s0 s1 = subst (λ (c : ℕ). Lets k.debit c s0 s1) (sym lapses.found.is.1) (subst (λ (d : Bool). Lets d cents s0 s1) (sym lapses.found.is.0) lets) in
    record {
      sums = sums_lapsed since n k rs there lapses.found.held s0 s1 lets_it is.sums;
      rows = rows_lapsed since n debit cents old new rs lapses is.rows;
    }

-- What is remembered of a company is read once, from its open rows.
use Rattle.std.proofs.Common.{◌≡◌, ◌∙◌, refl, ap, sym, subst, ℕ, ◌+◌, ◌<◌, Bool, true, false, List, [], ◌∷◌, ◌++◌, map, length, take, get_or, Option, Some, None, arith}
use Rattle.std.specs.Prelude.{sum_by, sum, not, ◌&&◌, ◌==◌, if◌then◌else◌, is_some, IfSome}
use Rattle.std.specs.List.{AllByRecursion}
use Rattle.std.proofs.lemmas.Bool.{eqb-true, eq-eqb}
use Rattle.std.proofs.lemmas.List.{append-nil}
use Rattle.std.proofs.lemmas.List.{take_more}
use Rattle.std.proofs.lemmas.List.Sums.{sum_by-cons, sum_by-append}
use Rattle.std.proofs.lemmas.List.Concat.{flat_map-append}
use Rattle.desk_rules.specs.declared.rules.entry_fact.EntryFact.{EntryFact}
use Rattle.desk_rules.specs.declared.rules.entry_fact.EntryState.{EntryState}
use Rattle.desk_rules.specs.declared.rules.entry_fact.EntryState.TheVariants.{Held, Sent, Returned, Lapsed}
use Rattle.desk_rules.specs.LimitChecks.{is_debit}
use Rattle.desk_book.specs.declared.row.Row.{Row}
use Rattle.desk_book.specs.Standing.{row_facts, facts_in}
use Rattle.remembering_store.specs.OpenSums.{settles_on}
use Rattle.remembering_store.specs.Kept.{in_direction, if_on, Holds, Settles}
use Rattle.desk_book.specs.OpenSubmissions.{standing_cents}
use Rattle.remembering_store.specs.KnownRow.{KnownRow, Fits, place_of, counted}
use Rattle.remembering_store.specs.Laws.{rows_at}
use Rattle.remembering_store.specs.OpenRows.{row_in, Adds}
use Rattle.remembering_store.specs.Remembered.{AreSums, AreRows, AreKept, AreAllKept, IsOf, KeepsOn}
use Rattle.remembering_store.specs.declared.sums.company_sums.Sums.{Sums}
use Rattle.remembering_store.specs.declared.sums.open_rows.OpenRows.{OpenRows}
use Rattle.remembering_store.proofs.Adding.{each_append, rows_added, sums_added}
use Rattle.remembering_store.proofs.Returning.{stands_by_cents, credit_none}
use Rattle.remembering_store.proofs.Weights.{held_weight, day_weight, held_sum, day_sum, alike_each, nothing, each_map, each_both, row_debit}

-- ---- a row that was sent

and_not : (b : Bool) → (b && false) ≡ false
and_not true = refl
and_not false = refl

sent_none : (of : Bool) (day : ℕ) (debit prenote : Bool) (cents : ℕ) (s : EntryState) → place_of s ≡ Some (Some day) → held_weight of (record { debit = debit; prenote = prenote; cents = cents; state = s }) ≡ 0
sent_none of day debit prenote cents Held is = absurd cc
sent_none true day debit prenote cents (Sent on) is = ap (λ (t : Bool). if t then cents else 0) (and_not debit)
sent_none false day debit prenote cents (Sent on) is = ap (λ (t : Bool). if t then cents else 0) (and_not (not debit))
sent_none true day debit prenote cents (Returned settled code back late) is = ap (λ (t : Bool). if t then cents else 0) (and_not debit)
sent_none false day debit prenote cents (Returned settled code back late) is = ap (λ (t : Bool). if t then cents else 0) (and_not (not debit))
sent_none of day debit prenote cents Lapsed is = absurd cc

settles_by_cents : (days : ℕ → Bool) (day : ℕ) (debit prenote : Bool) (cents : ℕ) (s : EntryState) → debit ≡ false → place_of s ≡ Some (Some day)
    → day_weight false days (record { debit = debit; prenote = prenote; cents = cents; state = s }) ≡ if_on days day cents
settles_by_cents days day debit prenote cents Held is there = absurd cc
settles_by_cents days day debit prenote cents (Sent on) is there =
    let same : on ≡ day = cc in ap (λ (d : Bool). if not d && days on then cents else 0) is ∙ ap (λ (n : ℕ). if_on days n cents) same
settles_by_cents days day debit prenote cents (Returned settled code back late) is there =
    let same : settled ≡ day = cc in ap (λ (d : Bool). if not d && days settled then cents else 0) is ∙ ap (λ (n : ℕ). if_on days n cents) same
settles_by_cents days day debit prenote cents Lapsed is there = absurd cc

debit_none : (days : ℕ → Bool) (f : EntryFact) → f.debit ≡ true → day_weight false days f ≡ 0
debit_none days f is = ap (λ (d : Bool). if not d && settles_on days f.state then f.cents else 0) is

of_day : (days : ℕ → Bool) (day : ℕ) (cents : EntryFact → ℕ) (fs : List EntryFact) → sum_by (λ f. if_on days day (cents f)) fs ≡ if_on days day (sum_by cents fs)
of_day days day cents fs = by (days day) where
  by : (t : Bool) → sum_by (λ f. if t then cents f else 0) fs ≡ (if t then sum_by cents fs else 0)
  by true = refl
  by false = nothing fs

sum_mapped : (cents : EntryFact → ℕ) (fs : List EntryFact) → sum_by cents fs ≡ sum (map cents fs)
sum_mapped cents [] = refl
sum_mapped cents (f ∷ fs) = sum_by-cons cents f fs ∙ ap (λ (n : ℕ). cents f + n) (sum_mapped cents fs) ∙ sym (sum_by-cons (λ (n : ℕ). n) (cents f) (map cents fs))

module _ (row : Row) (day : ℕ) (stands : AllByRecursion (λ f. place_of f.state ≡ Some (Some day)) (row_facts row)) where
  sent_row_holds_none : (of : Bool) → sum_by (held_weight of) (row_facts row) ≡ 0
  sent_row_holds_none of =
      alike_each (held_weight of) (λ f. 0) (row_facts row)
      (each_map (λ f. place_of f.state ≡ Some (Some day)) (λ f. held_weight of f ≡ 0) (λ f is. sent_none of day f.debit f.prenote f.cents f.state is) (row_facts row) stands)
      ∙ nothing (row_facts row)

  sent_row_counts : (debit : Bool) (total : ℕ) (cents : List ℕ) → is_debit row.content.direction ≡ debit → sum_by (λ f. f.cents) (row_facts row) ≡ total → (debit ≡ true → map standing_cents (row_facts row) ≡ cents)
      → (of : Bool) (days : ℕ → Bool) → sum_by (day_weight of days) (row_facts row) ≡ in_direction debit of (if_on days day (if debit then sum cents else total))
  sent_row_counts true total cents way sums list true days =
      alike_each (day_weight true days) (λ f. if_on days day (standing_cents f)) (row_facts row)
      (each_both (λ f. place_of f.state ≡ Some (Some day)) (λ f. f.debit ≡ is_debit row.content.direction) (λ f. day_weight true days f ≡ if_on days day (standing_cents f))
      (λ f there is. stands_by_cents days day f.debit f.prenote f.cents f.state (is ∙ way) there) (row_facts row) stands (row_debit row))
      ∙ of_day days day standing_cents (row_facts row) ∙ ap (if_on days day) (sum_mapped standing_cents (row_facts row) ∙ ap sum (list refl))
  sent_row_counts true total cents way sums list false days =
      alike_each (day_weight false days) (λ f. 0) (row_facts row)
      (each_map (λ f. f.debit ≡ is_debit row.content.direction) (λ f. day_weight false days f ≡ 0) (λ f is. debit_none days f (is ∙ way)) (row_facts row) (row_debit row))
      ∙ nothing (row_facts row)
  sent_row_counts false total cents way sums list true days =
      alike_each (day_weight true days) (λ f. 0) (row_facts row)
      (each_map (λ f. f.debit ≡ is_debit row.content.direction) (λ f. day_weight true days f ≡ 0) (λ f is. credit_none days f (is ∙ way)) (row_facts row) (row_debit row))
      ∙ nothing (row_facts row)
  sent_row_counts false total cents way sums list false days =
      alike_each (day_weight false days) (λ f. if_on days day f.cents) (row_facts row)
      (each_both (λ f. place_of f.state ≡ Some (Some day)) (λ f. f.debit ≡ is_debit row.content.direction) (λ f. day_weight false days f ≡ if_on days day f.cents)
      (λ f there is. settles_by_cents days day f.debit f.prenote f.cents f.state (is ∙ way) there) (row_facts row) stands (row_debit row))
      ∙ of_day days day (λ f. f.cents) (row_facts row) ∙ ap (if_on days day) sums

pub sums_loaded : (since day : ℕ) (k : KnownRow) (s0 s1 : Sums) (rs : List Row) (row : Row) → Fits k row → k.settled ≡ Some day → Settles k.debit day (counted k) s0 s1 → AreSums since s0 rs → AreSums since s1 (rs ++ row ∷ [])
sums_loaded since day k s0 s1 rs row fits sent settles are = record {
  held = λ of.
      let more = ap (sum_by (held_weight of)) facts ∙ sum_by-append (held_weight of) (facts_in rs) (row_facts row) in
      let a = sent_row_holds_none row day states of in
      let c = settles.held of in
      let e = are.held of ∙ held_sum of (facts_in rs) in
      let f = held_sum of (facts_in (rs ++ row ∷ [])) in
      omega (arith, more, a, c, e, f);
  settled = λ of days from.
      let more = ap (sum_by (day_weight of days)) facts ∙ sum_by-append (day_weight of days) (facts_in rs) (row_facts row) in
      let a = sent_row_counts row day states k.debit k.total k.cents fits.debit fits.total fits.cents of days in
      let c = settles.settled of days in
      let e = are.settled of days from ∙ day_sum of days (facts_in rs) in
      let f = day_sum of days (facts_in (rs ++ row ∷ [])) in
      omega (arith, more, a, c, e, f);
} where
  facts : facts_in (rs ++ row ∷ []) ≡ facts_in rs ++ row_facts row
  facts = flat_map-append row_facts rs (row ∷ []) ∙ ap (λ (fs : List EntryFact). facts_in rs ++ fs) (append-nil (row_facts row))

  states : AllByRecursion (λ f. place_of f.state ≡ Some (Some day)) (row_facts row)
  states = each_map (λ f. place_of f.state ≡ Some k.settled) (λ f. place_of f.state ≡ Some (Some day)) (λ f e. e ∙ ap Some sent) (row_facts row) fits.stands

-- ---- rows of which each is kept

pub none_kept : (n : ℕ) (m : OpenRows) (rs : List Row) → AreKept m rs → row_in n m ≡ None → rows_at n rs ≡ []
none_kept n m [] kept none = refl
none_kept n m (row ∷ rs) kept none = by (none_kept n m rs kept.1 none) (row.order == n) refl where
  by : rows_at n rs ≡ [] → (t : Bool) → (row.order == n) ≡ t → (if t then row ∷ rows_at n rs else rows_at n rs) ≡ []
  by rest true e =
      let here : row_in row.order m ≡ None = ap (λ (o : ℕ). row_in o m) (eqb-true row.order n e) ∙ none in
      let no : is_some (row_in row.order m) ≡ false = ap is_some here in
      let yes = kept.0 in
      absurd cc
  by rest false e = rest

pub kept_more : (n : ℕ) (k : KnownRow) (old new : OpenRows) (rs : List Row) (row : Row) → Adds n k old new → row.order ≡ n → AreKept old rs → AreKept new (rs ++ row ∷ [])
kept_more n k old new rs row adds is kept = each_append (λ r. is_some (row_in r.order new) ≡ true) rs row (each_map (λ r. is_some (row_in r.order old) ≡ true) (λ r. is_some (row_in r.order new) ≡ true) still rs kept) here where
  still : (r : Row) → is_some (row_in r.order old) ≡ true → is_some (row_in r.order new) ≡ true
  still r was = ap is_some (adds.puts r.order) ∙ by (r.order == n) where
    by : (t : Bool) → is_some (if t then Some k else row_in r.order old) ≡ true
    by true = refl
    by false = was

  here : is_some (row_in row.order new) ≡ true
  here = ap is_some (adds.puts row.order ∙ ap (λ (t : Bool). if t then Some k else row_in row.order old) (eq-eqb row.order n is))

-- ---- one more

rows_loaded : (since n : ℕ) (k : KnownRow) (old new : Option OpenRows) → KeepsOn n k old new → (rs : List Row) (of : Row) → of.order ≡ n → Fits k of
    → IfSome old (λ m. AreRows since m rs) → AreAllKept old rs → IfSome new (λ m. AreRows since m (rs ++ of ∷ [])) × AreAllKept new (rs ++ of ∷ [])
rows_loaded since n k old None keeps rs of order fits are kept = (tt, tt)
rows_loaded since n k None (Some new) keeps rs of order fits are kept = absurd keeps
rows_loaded since n k (Some old) (Some new) adds rs of order fits are kept =
    (rows_added since n k old new adds rs of (none_kept n old rs kept adds.absent) order fits are, kept_more n k old new rs of adds order kept)

pub loaded : (since n day : ℕ) (k : KnownRow) (s0 s1 : Sums) (old new : Option OpenRows) → KeepsOn n k old new → k.settled ≡ Some day → (cents : ℕ) → cents ≡ counted k → Settles k.debit day cents s0 s1
    → (rs : List Row) (of : Row) → IsOf (record { since = since; sums = s0; rows = old }) rs → AreAllKept old rs → of.order ≡ n → Fits k of
    → IsOf (record { since = since; sums = s1; rows = new }) (rs ++ of ∷ []) × AreAllKept new (rs ++ of ∷ [])
loaded since n day k s0 s1 old new keeps sent cents same settles rs of is kept order fits =
    let rows = rows_loaded since n k old new keeps rs of order fits is.rows kept in
    (record { sums = sums_loaded since day k s0 s1 rs of fits sent (subst (λ (c : ℕ). Settles k.debit day c s0 s1) same settles) is.sums; rows = rows.0 }, rows.1)

pub loaded_held : (since n : ℕ) (k : KnownRow) (s0 s1 : Sums) (old new : Option OpenRows) → KeepsOn n k old new → k.settled ≡ None → Holds k.debit k.total s0 s1
    → (rs : List Row) (of : Row) → IsOf (record { since = since; sums = s0; rows = old }) rs → AreAllKept old rs → of.order ≡ n → Fits k of
    → IsOf (record { since = since; sums = s1; rows = new }) (rs ++ of ∷ []) × AreAllKept new (rs ++ of ∷ [])
loaded_held since n k s0 s1 old new keeps held holds rs of is kept order fits =
    let rows = rows_loaded since n k old new keeps rs of order fits is.rows kept in
    (record { sums = sums_added since k s0 s1 rs of fits held holds is.sums; rows = rows.0 }, rows.1)

pub one_longer : (rs : List Row) (i : ℕ) (row : Row) → i < length rs → row ≡ get_or rs i row → take (i + 1) rs ≡ take i rs ++ row ∷ []
one_longer rs i row within is = take_more rs i row within ∙ ap (λ (r : Row). take i rs ++ r ∷ []) (sym is)

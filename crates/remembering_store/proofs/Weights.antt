-- What the entries of a row come to.
use Rattle.std.proofs.Common.{◌≡◌, ◌∙◌, refl, ap, sym, ℕ, ◌+◌, Bool, true, false, List, [], ◌∷◌, map, zip, Some, None, arith}
use Rattle.std.specs.Prelude.{sum_by, not, ◌&&◌, if◌then◌else◌}
use Rattle.std.proofs.lemmas.List.Sums.{sum_by-cons}
use Rattle.std.specs.List.{AllByRecursion}
use Rattle.desk_rules.specs.declared.bodies.submission.Entry.{Entry}
use Rattle.desk_rules.specs.declared.rules.entry_fact.EntryFact.{EntryFact}
use Rattle.desk_rules.specs.declared.rules.entry_fact.EntryState.{EntryState}
use Rattle.desk_rules.specs.declared.rules.entry_fact.EntryState.TheVariants.{Held, Sent, Returned, Lapsed}
use Rattle.desk_rules.specs.LimitChecks.{is_debit}
use Rattle.desk_history.specs.Facts.{entry_fact}
use Rattle.desk_book.specs.declared.row.Row.{Row}
use Rattle.desk_book.specs.Standing.{row_facts}
use Rattle.remembering_store.specs.OpenSums.{is_held, settles_on, stands_on}
use Rattle.remembering_store.specs.Kept.{in_direction, if_on}
use Rattle.remembering_store.specs.KnownRow.{place_of}
use Rattle.remembering_store.specs.Laws.{in_state}
use Rattle.remembering_store.specs.Remembered.{held_of, settled_of}

-- ---- what an entry counts

abbrev pub held_weight : (debit : Bool) → EntryFact → ℕ
held_weight true f = if f.debit && is_held f.state then f.cents else 0
held_weight false f = if not f.debit && is_held f.state then f.cents else 0

abbrev pub day_weight : (debit : Bool) → (ℕ → Bool) → EntryFact → ℕ
day_weight true days f = if f.debit && stands_on days f.state then f.cents else 0
day_weight false days f = if not f.debit && settles_on days f.state then f.cents else 0

pub held_sum : (debit : Bool) (fs : List EntryFact) → held_of debit fs ≡ sum_by (held_weight debit) fs
held_sum true fs = refl
held_sum false fs = refl

pub day_sum : (debit : Bool) (days : ℕ → Bool) (fs : List EntryFact) → settled_of debit days fs ≡ sum_by (day_weight debit days) fs
day_sum true days fs = refl
day_sum false days fs = refl

-- ---- of one entry, by its parts

held_one : (of debit prenote : Bool) (cents : ℕ) (s : EntryState) → place_of s ≡ Some None
    → held_weight of (record { debit = debit; prenote = prenote; cents = cents; state = s }) ≡ in_direction debit of cents
held_one true true prenote cents Held is = refl
held_one true false prenote cents Held is = refl
held_one false true prenote cents Held is = refl
held_one false false prenote cents Held is = refl
held_one of debit prenote cents (Sent settled) is = absurd cc
held_one of debit prenote cents (Returned settled code taken late) is = absurd cc
held_one of debit prenote cents Lapsed is = absurd cc

pub and_not : (x : Bool) → (x && false) ≡ false
and_not true = refl
and_not false = refl

none_of : (x : Bool) (cents : ℕ) → (if x && false then cents else 0) ≡ 0
none_of x cents = ap (λ (t : Bool). if t then cents else 0) (and_not x)

held_on_none : (of : Bool) (days : ℕ → Bool) (debit prenote : Bool) (cents : ℕ) (s : EntryState) → place_of s ≡ Some None
    → day_weight of days (record { debit = debit; prenote = prenote; cents = cents; state = s }) ≡ 0
held_on_none true days debit prenote cents Held is = none_of debit cents
held_on_none false days debit prenote cents Held is = none_of (not debit) cents
held_on_none of days debit prenote cents (Sent settled) is = absurd cc
held_on_none of days debit prenote cents (Returned settled code taken late) is = absurd cc
held_on_none of days debit prenote cents Lapsed is = absurd cc

pub sent_holds_none : (of : Bool) (day : ℕ) (f : EntryFact) → held_weight of (in_state (λ was. Sent day) f) ≡ 0
sent_holds_none true day f = none_of f.debit f.cents
sent_holds_none false day f = none_of (not f.debit) f.cents

pub lapsed_holds_none : (of : Bool) (f : EntryFact) → held_weight of (in_state (λ was. Lapsed) f) ≡ 0
lapsed_holds_none true f = none_of f.debit f.cents
lapsed_holds_none false f = none_of (not f.debit) f.cents

pub lapsed_settles_none : (of : Bool) (days : ℕ → Bool) (f : EntryFact) → day_weight of days (in_state (λ was. Lapsed) f) ≡ 0
lapsed_settles_none true days f = none_of f.debit f.cents
lapsed_settles_none false days f = none_of (not f.debit) f.cents

sent_one : (of debit prenote : Bool) (days : ℕ → Bool) (day cents : ℕ) → day_weight of days (record { debit = debit; prenote = prenote; cents = cents; state = Sent day }) ≡ in_direction debit of (if_on days day cents)
sent_one true true prenote days day cents = refl
sent_one true false prenote days day cents = refl
sent_one false true prenote days day cents = refl
sent_one false false prenote days day cents = refl

-- ---- of a list

pub alike : {X : Type 0} (f g : X → ℕ) → ((x : X) → f x ≡ g x) → (xs : List X) → sum_by f xs ≡ sum_by g xs
alike f g same xs i = sum_by (λ x. same x i) xs

pub alike_each : {X : Type 0} (f g : X → ℕ) (xs : List X) → AllByRecursion (λ x. f x ≡ g x) xs → sum_by f xs ≡ sum_by g xs
alike_each f g [] same = refl
alike_each f g (x ∷ xs) same = sum_by-cons f x xs ∙ (let here = same.0 in let rest = alike_each f g xs same.1 in let e : f x + sum_by f xs ≡ g x + sum_by g xs = omega (arith, here, rest) in e) ∙ sym (sum_by-cons g x xs)

pub nothing : {X : Type 0} (xs : List X) → sum_by (λ x. 0) xs ≡ 0
nothing [] = refl
nothing (x ∷ xs) = nothing xs

pub each_map : {X : Type 0} (P Q : X → Type 0) → ((x : X) → P x → Q x) → (xs : List X) → AllByRecursion P xs → AllByRecursion Q xs
each_map P Q turn [] each = tt
each_map P Q turn (x ∷ xs) each = (turn x each.0, each_map P Q turn xs each.1)

pub each_both : {X : Type 0} (P Q R : X → Type 0) → ((x : X) → P x → Q x → R x) → (xs : List X) → AllByRecursion P xs → AllByRecursion Q xs → AllByRecursion R xs
each_both P Q R turn [] p q = tt
each_both P Q R turn (x ∷ xs) p q = (turn x p.0 q.0, each_both P Q R turn xs p.1 q.1)

-- the direction of all entries of a row
entries_debit : (debit : Bool) (es : List Entry) (ss : List EntryState) → AllByRecursion (λ f. f.debit ≡ debit) (map (entry_fact debit) (zip es ss))
entries_debit debit [] ss = tt
entries_debit debit (e ∷ es) [] = tt
entries_debit debit (e ∷ es) (s ∷ ss) = (refl, entries_debit debit es ss)

pub row_debit : (row : Row) → AllByRecursion (λ f. f.debit ≡ is_debit row.content.direction) (row_facts row)
row_debit row = entries_debit (is_debit row.content.direction) row.content.entries row.states

directed : (debit of : Bool) (fs : List EntryFact) → sum_by (λ f. in_direction debit of f.cents) fs ≡ in_direction debit of (sum_by (λ f. f.cents) fs)
directed true true fs = refl
directed true false fs = nothing fs
directed false true fs = nothing fs
directed false false fs = refl

on_or_not : (days : ℕ → Bool) (day : ℕ) (fs : List EntryFact) → sum_by (λ f. if_on days day f.cents) fs ≡ if_on days day (sum_by (λ f. f.cents) fs)
on_or_not days day fs = by (days day) where
  by : (t : Bool) → sum_by (λ f. if t then f.cents else 0) fs ≡ (if t then sum_by (λ f. f.cents) fs else 0)
  by true = refl
  by false = nothing fs

directed_on : (debit of : Bool) (days : ℕ → Bool) (day : ℕ) (fs : List EntryFact) → sum_by (λ f. in_direction debit of (if_on days day f.cents)) fs ≡ in_direction debit of (if_on days day (sum_by (λ f. f.cents) fs))
directed_on true true days day fs = on_or_not days day fs
directed_on true false days day fs = nothing fs
directed_on false true days day fs = nothing fs
directed_on false false days day fs = on_or_not days day fs

-- a row that is held
module _ (row : Row) (stands : AllByRecursion (λ f. place_of f.state ≡ Some None) (row_facts row)) where
  pub held_row_holds : (of : Bool) → sum_by (held_weight of) (row_facts row) ≡ in_direction (is_debit row.content.direction) of (sum_by (λ f. f.cents) (row_facts row))
  held_row_holds of =
      alike_each (held_weight of) (λ f. in_direction (is_debit row.content.direction) of f.cents) (row_facts row)
      (each_both (λ f. place_of f.state ≡ Some None) (λ f. f.debit ≡ is_debit row.content.direction) (λ f. held_weight of f ≡ in_direction (is_debit row.content.direction) of f.cents)
      (λ f held way. held_one of f.debit f.prenote f.cents f.state held ∙ ap (λ (d : Bool). in_direction d of f.cents) way) (row_facts row) stands (row_debit row))
      ∙ directed (is_debit row.content.direction) of (row_facts row)

  pub held_row_settles_none : (of : Bool) (days : ℕ → Bool) → sum_by (day_weight of days) (row_facts row) ≡ 0
  held_row_settles_none of days =
      alike_each (day_weight of days) (λ f. 0) (row_facts row)
      (each_map (λ f. place_of f.state ≡ Some None) (λ f. day_weight of days f ≡ 0) (λ f held. held_on_none of days f.debit f.prenote f.cents f.state held) (row_facts row) stands)
      ∙ nothing (row_facts row)

-- once it is sent
pub sent_row_settles : (row : Row) (of : Bool) (days : ℕ → Bool) (day : ℕ)
    → sum_by (λ f. day_weight of days (in_state (λ was. Sent day) f)) (row_facts row) ≡ in_direction (is_debit row.content.direction) of (if_on days day (sum_by (λ f. f.cents) (row_facts row)))
sent_row_settles row of days day =
    alike_each (λ f. day_weight of days (in_state (λ was. Sent day) f)) (λ f. in_direction (is_debit row.content.direction) of (if_on days day f.cents)) (row_facts row)
    (each_map (λ f. f.debit ≡ is_debit row.content.direction) (λ f. day_weight of days (in_state (λ was. Sent day) f) ≡ in_direction (is_debit row.content.direction) of (if_on days day f.cents))
    (λ f way. sent_one of f.debit f.prenote days day f.cents ∙ ap (λ (d : Bool). in_direction d of (if_on days day f.cents)) way) (row_facts row) (row_debit row))
    ∙ directed_on (is_debit row.content.direction) of days day (row_facts row)

-- The number of the last place is that of the last sent entry.
use Rattle.std.proofs.Common.{◌≡◌, ℕ, ◌+◌, ◌-◌, ◌<◌, ◌≤◌, Bool, true, false, ◌==◌, cond, List, [], ◌∷◌, ◌++◌, map, filter, find, length, reverse, slice_get, Option, Some, None, option_map, unwrap_or, refl, sym, subst, ap, ◌∙◌, arith, inl, inr, IsPermutation, is_gt}
use Rattle.std.specs.Option.{option_or}
use Rattle.std.specs.Ordering.{nat_cmp, on}
use Rattle.std.specs.declared.cmp.Ordering.{Ordering}
use Rattle.std.specs.declared.cmp.Ordering.TheVariants.{Less, Greater}
use Rattle.std.specs.Cmp.{nat_cmp_is}
use Rattle.std.specs.List.{AllByRecursion}
use Rattle.std.proofs.lemmas.Bool.{cases_order, eq-eqb, ne_eqb}
use Rattle.std.proofs.lemmas.Cmp.{nat_cmp_total, on_total}
use Rattle.std.proofs.lemmas.List.{reverse-append, length-reverse}
use Rattle.std.proofs.lemmas.List.Sorted.{length_permutation, IsPermutation-refl, IsPermutation-sym, IsPermutation-reverse}
use Rattle.sqlite_trees.specs.Tree.{IsAscending}
use Rattle.sqlite_trees.proofs.ListLemmas.{all-permutation}
use Rattle.sqlite_keyed.specs.Lists.{insert_sorted, sort_by}
use Rattle.sqlite_keyed.proofs.ListLemmas.{all_weaker, all_both, all-slice_get, slice_get-filter, ascending_weaker}
use Rattle.sqlite_keyed.proofs.SortLemmas.{IsPermutation-sort_by}
use Rattle.desk_plan.specs.Sequences.{last_sequence}
use Rattle.desk_history.specs.declared.sent_entry.SentEntry.{SentEntry}
use Rattle.desk_history.specs.Sendings.{sent_sequence}
use Rattle.sql_tables.specs.Description.{key_cmp}
use Rattle.sql_tables.specs.DeskTables as the
use Rattle.sql_tables.specs.Encodes.{AreYoungest, youngest_place}
use Rattle.sql_tables.specs.KeyOrders.{IsInOrder}
use Rattle.sql_tables.specs.declared.records.NumberRecord.{NumberRecord}
use Rattle.sql_read_laws.proofs.DaySums.{less_number}
use Rattle.sql_tables.proofs.Lists.{last-cons, found_passes}
use Rattle.sql_read_laws.proofs.Singles.{each_alone}
use Rattle.sql_read_laws.proofs.SentPlaces.{StandsAt, StandsOrNone, stands, stands_as, place_more, slice_get-end}

abbrev place_cmp : NumberRecord → NumberRecord → Ordering
place_cmp = on (λ n. n.place) nat_cmp

abbrev IsLower : NumberRecord → NumberRecord → Type 0
IsLower a b = a.place < b.place

-- ---- numbers in the order of their places

all-inserted : (P : NumberRecord → Type 0) (new : NumberRecord) (ns : List NumberRecord) → P new → AllByRecursion P ns → AllByRecursion P (insert_sorted place_cmp new ns)
all-inserted P new [] h all = (h, tt)
all-inserted P new (n ∷ ns) h all = elim (is_gt (place_cmp new n)) as (λ t. AllByRecursion P (cond t (n ∷ insert_sorted place_cmp new ns) (new ∷ n ∷ ns))) [
  | true ↦ (all.0, all-inserted P new ns h all.1)
  | false ↦ (h, all)
]

all-sorted : (P : NumberRecord → Type 0) (ns : List NumberRecord) → AllByRecursion P ns → AllByRecursion P (sort_by place_cmp ns)
all-sorted P [] all = tt
all-sorted P (n ∷ ns) all = all-inserted P n (sort_by place_cmp ns) all.0 (all-sorted P ns all.1)

inserted_rise : (new : NumberRecord) (ns : List NumberRecord) → AllByRecursion (λ n. new.place ≡ n.place → ⊥) ns → IsAscending IsLower ns → IsAscending IsLower (insert_sorted place_cmp new ns)
inserted_rise new [] apart up = (tt, tt)
inserted_rise new (n ∷ ns) apart up = elim (cases_order new.place n.place) [
  | inl same ↦ absurd (apart.0 same)
  | inr differ ↦ elim differ [
    | inl lower ↦
        subst (λ o. IsAscending IsLower (cond (is_gt o) (n ∷ insert_sorted place_cmp new ns) (new ∷ n ∷ ns))) (nat_cmp_is new.place n.place Less lower)
        ((lower, all_weaker (IsLower n) (IsLower new) (λ m below. omega arith) ns up.0), up)
    | inr higher ↦
        subst (λ o. IsAscending IsLower (cond (is_gt o) (n ∷ insert_sorted place_cmp new ns) (new ∷ n ∷ ns))) (nat_cmp_is new.place n.place Greater higher)
        (all-inserted (IsLower n) new ns higher up.0, inserted_rise new ns apart.1 up.1)
  ]
]

sorted_rise : (ns : List NumberRecord) → IsAscending (λ a b. a.place ≡ b.place → ⊥) ns → IsAscending IsLower (sort_by place_cmp ns)
sorted_rise [] apart = tt
sorted_rise (n ∷ ns) apart = inserted_rise n (sort_by place_cmp ns) (all-sorted (λ m. n.place ≡ m.place → ⊥) ns apart.0) (sorted_rise ns apart.1)

-- ---- the last of them

has_last : {X : Type 0} (x : X) (xs : List X) → (last : X) × (slice_get (reverse (x ∷ xs)) 0 ≡ Some last)
has_last {X = X} x xs = go (slice_get (reverse xs) 0) (last-cons x xs)
  where
    go : (o : Option X) → slice_get (reverse (x ∷ xs)) 0 ≡ option_or o (Some x) → (last : X) × (slice_get (reverse (x ∷ xs)) 0 ≡ Some last)
    go None is = (x, is)
    go (Some y) is = (y, is)

last_tops : (ns : List NumberRecord) (m : NumberRecord) → IsAscending IsLower ns → slice_get (reverse ns) 0 ≡ Some m → AllByRecursion (λ n. n.place ≤ m.place) ns
last_tops [] m up is = absurd (let e = is in cc)
last_tops (n ∷ []) m up is = let same : n ≡ m = (let e = is in cc) in let places = ap (λ (k : NumberRecord). k.place) same in (omega arith, tt)
last_tops (n ∷ k ∷ ns) m up is =
    let later = has_last k ns in
    let same : Some later.0 ≡ Some m = ap (λ o. option_or o (Some n)) (sym later.1) ∙ sym (last-cons n (k ∷ ns)) ∙ is in
    let more = last_tops (k ∷ ns) m up.1 (later.1 ∙ same) in
    let below : n.place < k.place = up.0.0 in
    let top : k.place ≤ m.place = more.0 in
    (omega arith, more)

-- ---- each number is its sequence's

module _ (newest : List SentEntry) (ns : List NumberRecord) (young : AreYoungest ns (reverse newest)) (rise : IsInOrder (key_cmp the.sequences) ns) where
  abbrev IsIts : NumberRecord → Type 0
  IsIts n = youngest_place (reverse newest) n.sequence ≡ Some n.place

  abbrev has_its : NumberRecord → NumberRecord → Bool
  has_its m n = n.sequence == m.sequence

  pub all_its : AllByRecursion IsIts ns
  all_its =
      all_weaker (λ n. filter (has_its n) ns ≡ n ∷ []) IsIts
      (λ n alone. sym (young n.sequence) ∙ ap (option_map (λ m. m.place)) (sym (slice_get-filter (has_its n) ns) ∙ ap (λ l. slice_get l 0) alone)) ns
      (each_alone (λ a b. key_cmp the.sequences a b ≡ Less) has_its (λ n. eq-eqb n.sequence n.sequence refl)
      (λ a b less. let below = less_number a.sequence b.sequence less in ne_eqb b.sequence a.sequence (λ same. absurd (omega arith)))
      (λ a b less. let below = less_number a.sequence b.sequence less in ne_eqb a.sequence b.sequence (λ same. absurd (omega arith))) ns rise)

  pub its_place : (n : NumberRecord) → IsIts n → StandsAt newest n.sequence n.place
  its_place n its = subst (StandsOrNone newest n.sequence) its (stands newest n.sequence)

  same_place : (m n : NumberRecord) → IsIts m → IsIts n → m.place ≡ n.place → m.sequence ≡ n.sequence
  same_place m n its other same =
      let one = its_place m its in
      let two = its_place n other in
      let both : Some one.entry ≡ Some two.entry = sym one.at ∙ ap (λ k. slice_get (reverse newest) (k - 1)) same ∙ two.at in
      let entries : one.entry ≡ two.entry = (let e = both in cc) in
      sym (stands_as newest m.sequence m.place one) ∙ ap (λ (e : SentEntry). e.sequence) entries ∙ stands_as newest n.sequence n.place two

  apart_from : (n : NumberRecord) → IsIts n → (ms : List NumberRecord) → AllByRecursion IsIts ms → AllByRecursion (λ m. key_cmp the.sequences n m ≡ Less) ms → AllByRecursion (λ m. n.place ≡ m.place → ⊥) ms
  apart_from n its ms all less =
      all_both IsIts (λ m. key_cmp the.sequences n m ≡ Less) (λ m. n.place ≡ m.place → ⊥)
      (λ m other below same. let lower = less_number n.sequence m.sequence below in let equal = same_place n m its other same in absurd (omega arith)) ms all less

  places_apart : (ms : List NumberRecord) → AllByRecursion IsIts ms → IsInOrder (key_cmp the.sequences) ms → IsAscending (λ a b. a.place ≡ b.place → ⊥) ms
  places_apart [] all up = tt
  places_apart (m ∷ ms) all up = (apart_from m all.0 ms all.1 up.0, places_apart ms all.1 up.1)

-- ---- the last number is that of the newest entry

abbrev IsLastOf : List NumberRecord → Option NumberRecord → Type 0
IsLastOf ns last = (by_place : List NumberRecord) → IsPermutation ns by_place → IsInOrder place_cmp by_place → last ≡ slice_get (reverse by_place) 0

sorted_last : (newest : List SentEntry) (ns : List NumberRecord) → AreYoungest ns (reverse newest) → IsInOrder (key_cmp the.sequences) ns → (last : Option NumberRecord) → IsLastOf ns last
    → (last ≡ slice_get (reverse (sort_by place_cmp ns)) 0) × IsAscending IsLower (sort_by place_cmp ns) × IsPermutation ns (sort_by place_cmp ns)
sorted_last newest ns young rise last is =
    let up = sorted_rise ns (places_apart newest ns young rise ns (all_its newest ns young rise) rise) in
    let turned : IsPermutation ns (sort_by place_cmp ns) = IsPermutation-sym (sort_by place_cmp ns) ns (IsPermutation-sort_by place_cmp (on_total (λ n. n.place) nat_cmp_total) ns) in
    (is (sort_by place_cmp ns) turned (ascending_weaker IsLower (λ a b. place_cmp a b ≡ Less) (λ a b lower. sym (nat_cmp_is a.place b.place Less lower)) (sort_by place_cmp ns) up), up, turned)

none_of_nothing : (s place : ℕ) (ns : List NumberRecord) → 0 ≡ length ns → option_map (λ (n : NumberRecord). n.place) (find (λ n. n.sequence == s) ns) ≡ Some place → ⊥
none_of_nothing s place [] short some = (let e = some in cc)
none_of_nothing s place (n ∷ ns) short some = omega arith

module _ (e : SentEntry) (newest : List SentEntry) (ns : List NumberRecord) (young : AreYoungest ns (reverse (e ∷ newest))) (rise : IsInOrder (key_cmp the.sequences) ns) where
  abbrev long : ℕ
  long = length newest + 1

  youngest_last : youngest_place (reverse (e ∷ newest)) e.sequence ≡ Some long
  youngest_last = place_more e newest e.sequence ∙ ap (λ t. cond t (Some long) (youngest_place (reverse newest) e.sequence)) (eq-eqb e.sequence e.sequence refl)

  numbered : (o : Option NumberRecord) → find (λ n. n.sequence == e.sequence) ns ≡ o → option_map (λ (n : NumberRecord). n.place) o ≡ Some long → (P : NumberRecord → Type 0) → AllByRecursion P ns → (n : NumberRecord) × P n × (n.place ≡ long)
  numbered None found place P all = absurd (let e = place in cc)
  numbered (Some n) found place P all = (n, (found_passes P (λ n. n.sequence == e.sequence) ns n all found).0, (let e = place in cc))

  top_is : (m : NumberRecord) → AllByRecursion (λ n. n.place ≤ m.place) ns → StandsAt (e ∷ newest) m.sequence m.place → (m.place ≡ length (e ∷ newest)) × (m.sequence ≡ e.sequence)
  top_is m tops at =
      let first = numbered (find (λ n. n.sequence == e.sequence) ns) refl (young e.sequence ∙ youngest_last) (λ n. n.place ≤ m.place) tops in
      let below : first.0.place ≤ m.place = first.1 in
      let its : first.0.place ≡ long = first.2 in
      let place : m.place ≡ length (e ∷ newest) = omega (arith, at.within.1) in
      let index : m.place - 1 ≡ length (reverse newest) = omega (arith, length-reverse newest) in
      let entry : Some e ≡ Some at.entry =
      sym (slice_get-end (reverse newest) e)
      ∙ ap (λ k. slice_get (reverse newest ++ e ∷ []) k) (sym index)
      ∙ ap (λ l. slice_get l (m.place - 1)) (sym (reverse-append (e ∷ []) newest))
      ∙ at.at in
      let same : e ≡ at.entry = (let e = entry in cc) in
      (place, sym (stands_as (e ∷ newest) m.sequence m.place at) ∙ ap (λ (x : SentEntry). x.sequence) (sym same))

  last_found : (last : Option NumberRecord) (ys : List NumberRecord) → (last ≡ slice_get (reverse ys) 0) × IsAscending IsLower ys × IsPermutation ns ys
      → (unwrap_or (option_map (λ n. n.place) last) 0 ≡ length (e ∷ newest)) × (unwrap_or (option_map (λ n. n.sequence) last) 0 ≡ last_sequence (map sent_sequence (e ∷ newest)))
  last_found last [] sorted = absurd (none_of_nothing e.sequence long ns (length_permutation ns [] sorted.2) (young e.sequence ∙ youngest_last))
  last_found last (y ∷ ys) sorted =
      let top = has_last y ys in
      let m : NumberRecord = top.0 in
      let back : IsPermutation (y ∷ ys) ns = IsPermutation-sym ns (y ∷ ys) sorted.2 in
      let its = all-slice_get (IsIts (e ∷ newest) ns young rise) (reverse (y ∷ ys)) 0 m top.1 (all-permutation (IsIts (e ∷ newest) ns young rise) (y ∷ ys) (reverse (y ∷ ys)) (IsPermutation-reverse (y ∷ ys)) (all-permutation (IsIts (e ∷ newest) ns young rise) ns (y ∷ ys) sorted.2 (all_its (e ∷ newest) ns young rise))) in
      let is_top = top_is m (all-permutation (λ n. n.place ≤ m.place) (y ∷ ys) ns back (last_tops (y ∷ ys) m sorted.1 top.1)) (its_place (e ∷ newest) ns young rise m its) in
      let last_one : last ≡ Some m = sorted.0 ∙ top.1 in (
        ap (λ (o : Option NumberRecord). unwrap_or (option_map (λ n. n.place) o) 0) last_one ∙ is_top.0,
        ap (λ (o : Option NumberRecord). unwrap_or (option_map (λ n. n.sequence) o) 0) last_one ∙ is_top.1,
      )

pub last_is : (newest : List SentEntry) (ns : List NumberRecord) → AreYoungest ns (reverse newest) → IsInOrder (key_cmp the.sequences) ns → (last : Option NumberRecord) → IsLastOf ns last
    → (unwrap_or (option_map (λ n. n.place) last) 0 ≡ length newest) × (unwrap_or (option_map (λ n. n.sequence) last) 0 ≡ last_sequence (map sent_sequence newest))
last_is [] [] young rise last is =
    let none : last ≡ None = is [] (IsPermutation-refl []) tt in
    (ap (λ (o : Option NumberRecord). unwrap_or (option_map (λ n. n.place) o) 0) none, ap (λ (o : Option NumberRecord). unwrap_or (option_map (λ n. n.sequence) o) 0) none)
last_is [] (n ∷ ns) young rise last is = absurd (let its = (all_its [] (n ∷ ns) young rise).0 in cc)
last_is (e ∷ newest) ns young rise last is = last_found e newest ns young rise last (sort_by place_cmp ns) (sorted_last (e ∷ newest) ns young rise last is)

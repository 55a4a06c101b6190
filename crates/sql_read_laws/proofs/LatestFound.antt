-- The latest settlement of a range of sequences, and the entry that has a trace.
use Rattle.std.proofs.Common.{◌≡◌, ℕ, zero, suc, ◌+◌, ◌-◌, ◌<◌, ◌≤◌, Bool, true, false, ◌&&◌, ◌==◌, nat_le, cond, List, [], ◌∷◌, map, filter, find, Option, Some, None, option_map, refl, sym, ap, ◌∙◌, arith, inl, inr}
use Rattle.std.specs.Prelude.{filter_map, option_and_then}
use Rattle.std.specs.declared.cmp.Ordering.TheVariants.{Less}
use Rattle.std.specs.List.{AllByRecursion, range_with_len, cons_option}
use Rattle.std.proofs.lemmas.Bool.{cases_order, eq-eqb, ne_eqb}
use Rattle.std.proofs.lemmas.Bool.Decides.{nat_tests}
use Rattle.sqlite_trees.specs.Tree.{IsAscending}
use Rattle.sqlite_keyed.proofs.ListLemmas.{all_weaker, filter_none, all_of, ascending_weaker}
use Rattle.sql_tables.specs.Description.{key_cmp}
use Rattle.sql_tables.specs.DeskTables as the
use Rattle.sql_tables.specs.Encodes.{place_of_number}
use Rattle.sql_tables.specs.KeyOrders.{IsInOrder}
use Rattle.sql_tables.specs.TableReads.{is_between}
use Rattle.sql_tables.specs.declared.records.NumberRecord.{NumberRecord}
use Rattle.sql_read_laws.proofs.DaySums.{less_number}
use Rattle.sql_tables.proofs.Lists.{filter_agrees}

-- ---- those of some that are there

pub filter_map_same : {X Y : Type 0} (f g : X → Option Y) → ((x : X) → f x ≡ g x) → (xs : List X) → filter_map f xs ≡ filter_map g xs
filter_map_same f g same [] = refl
filter_map_same f g same (x ∷ xs) = λ i. cons_option (same x i) (filter_map_same f g same xs i)

pub filter_map_then : {X Y Z : Type 0} (g : Y → Option Z) (f : X → Option Y) (xs : List X) → filter_map (λ x. option_and_then g (f x)) xs ≡ filter_map g (filter_map f xs)
filter_map_then g f [] = refl
filter_map_then g f (x ∷ xs) = elim (f x) as (λ o. cons_option (option_and_then g o) (filter_map (λ x. option_and_then g (f x)) xs) ≡ filter_map g (cons_option o (filter_map f xs))) [
  | None ↦ filter_map_then g f xs
  | Some y ↦ ap (cons_option (g y)) (filter_map_then g f xs)
]

-- ---- places of sequences that follow one another

above_next : (a s : ℕ) → a < s → nat_le (a + 1) s ≡ nat_le a s
above_next a s above = grind (arith, nat_tests)

not_below : (a s : ℕ) → s < a → nat_le a s ≡ false
not_below a s below = grind (arith, nat_tests)

is_at_most : (a s : ℕ) → a ≤ s → nat_le a s ≡ true
is_at_most a s most = grind (arith, nat_tests)

abbrev IsBefore : NumberRecord → NumberRecord → Type 0
IsBefore m n = m.sequence < n.sequence

no_place : (a : ℕ) (ns : List NumberRecord) → AllByRecursion (λ n. a < n.sequence) ns → place_of_number ns a ≡ None
no_place a [] above = refl
no_place a (n ∷ ns) above = ap (λ t. option_map (λ (n : NumberRecord). n.place) (cond t (Some n) (find (λ n. n.sequence == a) ns))) (ne_eqb n.sequence a (λ same. absurd (let up = above.0 in omega arith))) ∙ no_place a ns above.1

module _ (a b : ℕ) (some : a ≤ b) where
  same_above : (ns : List NumberRecord) → AllByRecursion (λ n. a < n.sequence) ns → filter (is_between (a + 1) b) ns ≡ filter (is_between a b) ns
  same_above ns above = filter_agrees (is_between (a + 1) b) (is_between a b) ns (all_weaker (λ n. a < n.sequence) (λ n. is_between (a + 1) b n ≡ is_between a b n) (λ n up. ap (λ t. t && nat_le n.sequence b) (above_next a n.sequence up)) ns above)

  one_more : (ns : List NumberRecord) → IsAscending IsBefore ns → cons_option (place_of_number ns a) (map (λ n. n.place) (filter (is_between (a + 1) b) ns)) ≡ map (λ n. n.place) (filter (is_between a b) ns)
  one_more [] up = refl
  one_more (n ∷ ns) up = elim (cases_order n.sequence a) [
    | inl same ↦
        (let here : place_of_number (n ∷ ns) a ≡ Some n.place = ap (λ t. option_map (λ (n : NumberRecord). n.place) (cond t (Some n) (find (λ n. n.sequence == a) ns))) (eq-eqb n.sequence a same) in
        let out : is_between (a + 1) b n ≡ false = ap (λ t. t && nat_le n.sequence b) (not_below (a + 1) n.sequence (omega arith)) in
        let own : is_between a b n ≡ true = (λ i. is_at_most a n.sequence (omega arith) i && is_at_most n.sequence b (omega arith) i) in
        let above = all_weaker (IsBefore n) (λ m. a < m.sequence) (λ m below. omega arith) ns up.0 in
        (λ i. cons_option (here i) (map (λ (n : NumberRecord). n.place) (cond (out i) (n ∷ filter (is_between (a + 1) b) ns) (filter (is_between (a + 1) b) ns))))
        ∙ ap (λ l. n.place ∷ map (λ (n : NumberRecord). n.place) l) (same_above ns above)
        ∙ ap (λ t. map (λ (n : NumberRecord). n.place) (cond t (n ∷ filter (is_between a b) ns) (filter (is_between a b) ns))) (sym own))
    | inr differ ↦ elim differ [
      | inl lower ↦
          (let away : place_of_number (n ∷ ns) a ≡ place_of_number ns a = ap (λ t. option_map (λ (n : NumberRecord). n.place) (cond t (Some n) (find (λ n. n.sequence == a) ns))) (ne_eqb n.sequence a (λ same. absurd (omega arith))) in
          let out : is_between (a + 1) b n ≡ false = ap (λ t. t && nat_le n.sequence b) (not_below (a + 1) n.sequence (omega arith)) in
          let also : is_between a b n ≡ false = ap (λ t. t && nat_le n.sequence b) (not_below a n.sequence lower) in
          (λ i. cons_option (away i) (map (λ (n : NumberRecord). n.place) (cond (out i) (n ∷ filter (is_between (a + 1) b) ns) (filter (is_between (a + 1) b) ns))))
          ∙ one_more ns up.1
          ∙ ap (λ t. map (λ (n : NumberRecord). n.place) (cond t (n ∷ filter (is_between a b) ns) (filter (is_between a b) ns))) (sym also))
      | inr higher ↦
          (let above = all_weaker (IsBefore n) (λ m. a < m.sequence) (λ m below. omega arith) ns up.0 in
          ap (λ o. cons_option o (map (λ (n : NumberRecord). n.place) (filter (is_between (a + 1) b) (n ∷ ns)))) (no_place a (n ∷ ns) (higher, above))
          ∙ ap (map (λ (n : NumberRecord). n.place)) (same_above (n ∷ ns) (higher, above)))
    ]
  ]

none_between : (a b : ℕ) → 0 ≡ b + 1 - a → (n : NumberRecord) → is_between a b n ≡ false
none_between a b none n = go (nat_le a n.sequence) (nat_le n.sequence b) refl refl
  where
    go : (s t : Bool) → nat_le a n.sequence ≡ s → nat_le n.sequence b ≡ t → (s && t) ≡ false
    go true true p q = absurd (let below : a ≤ n.sequence = grind (arith, nat_tests) in let above : n.sequence ≤ b = grind (arith, nat_tests) in omega arith)
    go true false p q = refl
    go false t p q = refl

pub places_of_range : (k a b : ℕ) → k ≡ b + 1 - a → (ns : List NumberRecord) → IsAscending IsBefore ns → filter_map (place_of_number ns) (range_with_len a k) ≡ map (λ n. n.place) (filter (is_between a b) ns)
places_of_range zero a b none ns up = sym (ap (map (λ (n : NumberRecord). n.place)) (filter_none (is_between a b) ns (all_of (λ n. is_between a b n ≡ false) (none_between a b none) ns)))
places_of_range (suc k) a b many ns up =
    ap (cons_option (place_of_number ns a)) (places_of_range k (a + 1) b (omega arith) ns up)
    ∙ one_more a b (omega arith) ns up

pub numbers_before : (ns : List NumberRecord) → IsInOrder (key_cmp the.sequences) ns → IsAscending IsBefore ns
numbers_before ns rise = ascending_weaker (λ m n. key_cmp the.sequences m n ≡ Less) IsBefore (λ m n less. less_number m.sequence n.sequence less) ns rise

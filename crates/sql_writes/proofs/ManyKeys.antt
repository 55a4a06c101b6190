-- Rows that one INSERT put in are there as if each had been put in after the one before it.
use Rattle.std.proofs.Common.{◌≡◌, ◌≤◌, Bool, true, false, List, [], ◌∷◌, ◌++◌, filter, length, sym, ◌∙◌, subst, Ordering, Less, is_eq, IsPermutation}
use Rattle.std.specs.Prelude.{⊤}
use Rattle.std.specs.Cmp.{IsTotalOrder}
use Rattle.std.specs.List.{list_any}
use Rattle.std.proofs.lemmas.Bool.{or_parts}
use Rattle.std.proofs.lemmas.List.Folds.{list_any-append}
use Rattle.std.proofs.lemmas.List.Sorted.{IsPermutation-refl, IsPermutation-trans, IsPermutation-sym, IsPermutation-middle, IsPermutation-append_right, length_permutation}
use Rattle.sqlite_trees.specs.Tree.{IsAscending}
use Rattle.sqlite_keyed.specs.Lists.{insert_sorted}
use Rattle.sqlite_keyed.proofs.ListLemmas.{IsPermutation-filter}
use Rattle.sql_statements.proofs.FreeKeys.{free_before}
use Rattle.sql_statements.proofs.KeyOrder.{moves_sorted, rises_sorted}

module _ {X : Type 0} (cmp : X → X → Ordering) where
  -- one after another, each where its key belongs
  abbrev pub all_put : (new : List X) → List X → List X
  all_put [] xs = xs
  all_put (y ∷ ys) xs = all_put ys (insert_sorted cmp y xs)

  module _ (has_key_of : X → X → Bool) where
    -- none of them has the key of a row that was there, or of one before it
    abbrev pub AreFree : (new : List X) → List X → Type 0
    AreFree [] xs = ⊤
    AreFree (y ∷ ys) xs = (list_any (has_key_of y) xs ≡ false) × AreFree ys (insert_sorted cmp y xs)

    -- where no two rows have one key
    module _ (total : IsTotalOrder cmp) (same : (x y : X) → is_eq (cmp y x) ≡ has_key_of x y) (itself : (x : X) → has_key_of x x ≡ true) where
      pub put_in_turn : (ys xs : List X) → ((x : X) → length (filter (has_key_of x) (ys ++ xs)) ≤ 1) → IsAscending (λ a b. cmp a b ≡ Less) xs
          → IsPermutation (ys ++ xs) (all_put ys xs) × IsAscending (λ a b. cmp a b ≡ Less) (all_put ys xs) × AreFree ys xs
      put_in_turn [] xs few up = (IsPermutation-refl xs, up, tt)
      put_in_turn (y ∷ ys) xs few up =
          let all_free = free_before (has_key_of y) y (ys ++ xs) (itself y) (few y) in
          let free : list_any (has_key_of y) xs ≡ false = (or_parts _ _ (sym (list_any-append (has_key_of y) ys xs) ∙ all_free)).1 in
          let next = insert_sorted cmp y xs in
          let moved : IsPermutation (y ∷ ys ++ xs) (ys ++ next) = IsPermutation-trans _ _ _ (IsPermutation-sym _ _ (IsPermutation-middle ys y xs)) (IsPermutation-append_right ys _ _ (moves_sorted cmp y xs)) in
          let rises = rises_sorted cmp total y xs ((λ i. list_any (λ z. same y z i) xs) ∙ free) up in
          let rest = put_in_turn ys next (λ x. subst (λ n. n ≤ 1) (sym (length_permutation _ _ (IsPermutation-filter (has_key_of x) _ _ moved))) (few x)) rises in
          (IsPermutation-trans _ _ _ moved rest.0, rest.1, (free, rest.2))

-- Rows that one INSERT put in have another key beside the one that they stand by.
use Rattle.std.proofs.Common.{◌≡◌, ◌≤◌, Bool, true, false, List, [], ◌∷◌, ◌++◌, filter, length, sym, ◌∙◌, subst, Ordering, IsPermutation}
use Rattle.std.specs.List.{list_any}
use Rattle.std.proofs.lemmas.Bool.{or_parts}
use Rattle.std.proofs.lemmas.List.Folds.{list_any-append}
use Rattle.std.proofs.lemmas.List.Sorted.{IsPermutation-trans, IsPermutation-sym, IsPermutation-middle, IsPermutation-append_right, length_permutation}
use Rattle.sqlite_keyed.specs.Lists.{insert_sorted}
use Rattle.sqlite_keyed.proofs.ListLemmas.{IsPermutation-filter}
use Rattle.sql_statements.proofs.FreeKeys.{free_before}
use Rattle.sql_statements.proofs.KeyOrder.{moves_sorted}
use Rattle.sql_writes.proofs.ManyKeys.{AreFree}

-- none of them has the other key of a row that was there, or of one before it
pub free_in_turn : {X : Type 0} (cmp : X → X → Ordering) (has_key_of : X → X → Bool) (itself : (x : X) → has_key_of x x ≡ true) (ys xs : List X) → ((x : X) → length (filter (has_key_of x) (ys ++ xs)) ≤ 1)
    → AreFree cmp has_key_of ys xs
free_in_turn cmp has_key_of itself [] xs few = tt
free_in_turn cmp has_key_of itself (y ∷ ys) xs few =
    let all_free = free_before (has_key_of y) y (ys ++ xs) (itself y) (few y) in
    let free : list_any (has_key_of y) xs ≡ false = (or_parts _ _ (sym (list_any-append (has_key_of y) ys xs) ∙ all_free)).1 in
    let next = insert_sorted cmp y xs in
    let moved : IsPermutation (y ∷ ys ++ xs) (ys ++ next) = IsPermutation-trans _ _ _ (IsPermutation-sym _ _ (IsPermutation-middle ys y xs)) (IsPermutation-append_right ys _ _ (moves_sorted cmp y xs)) in
    let rest = free_in_turn cmp has_key_of itself ys next (λ x. subst (λ n. n ≤ 1) (sym (length_permutation _ _ (IsPermutation-filter (has_key_of x) _ _ moved))) (few x)) in
    (free, rest)

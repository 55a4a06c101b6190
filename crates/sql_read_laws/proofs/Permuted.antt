-- What a list in another order still says.
use Rattle.std.proofs.Common.{◌≡◌, ◌≤◌, Bool, List, ◌∷◌, filter, find, length, slice_get, IsPermutation, refl, sym, ap, ◌∙◌, subst, arith}
use Rattle.std.proofs.lemmas.List.Sorted.{length_permutation}
use Rattle.sqlite_keyed.proofs.ListLemmas.{along_permutation, IsPermutation-filter, slice_get-filter}

module _ {X : Type 0} where
  abbrev IsSameWhereFew : List X → List X → Type 0
  IsSameWhereFew xs ys = length xs ≤ 1 → xs ≡ ys

  under_head : (x : X) (xs ys : List X) → IsSameWhereFew xs ys → IsSameWhereFew (x ∷ xs) (x ∷ ys)
  under_head x xs ys same few = ap (λ l. x ∷ l) (same (omega (arith, few)))

  -- a list of one has no other order
  pub few_same : (xs ys : List X) → IsPermutation xs ys → length xs ≤ 1 → xs ≡ ys
  few_same =
      along_permutation IsSameWhereFew (λ xs few. refl) under_head
      (λ x y xs few. absurd (omega (arith, few)))
      (λ xs ys zs first then few. let same : xs ≡ ys = first few in same ∙ then (subst (λ (l : List X). length l ≤ 1) same few))

  -- where one passes at most, it is found in any order
  pub found_same : (p : X → Bool) (xs ys : List X) → IsPermutation xs ys → length (filter p ys) ≤ 1 → find p ys ≡ find p xs
  found_same p xs ys turned few =
      let kept : IsPermutation (filter p xs) (filter p ys) = IsPermutation-filter p xs ys turned in
      let as_many : length (filter p ys) ≡ length (filter p xs) = length_permutation (filter p xs) (filter p ys) kept in
      sym (slice_get-filter p ys)
      ∙ ap (λ l. slice_get l 0) (sym (few_same (filter p xs) (filter p ys) kept (omega (arith, few, as_many))))
      ∙ slice_get-filter p xs

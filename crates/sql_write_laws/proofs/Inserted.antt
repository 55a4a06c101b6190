-- A row that is put in the order of its key stands among the others.
use Rattle.std.proofs.Common.{List, [], ◌∷◌, ◌++◌, true, false, cond, is_gt, IsPermutation}
use Rattle.std.specs.declared.cmp.Ordering.{Ordering}
use Rattle.std.proofs.lemmas.List.Sorted.{IsPermutation-refl, IsPermutation-cons, IsPermutation-trans, IsPermutation-to_front, IsPermutation-append_left}
use Rattle.sqlite_keyed.specs.Lists.{insert_sorted}

module _ {X : Type 0} (cmp : X → X → Ordering) where
  inserted : (new : X) (xs : List X) → IsPermutation (xs ++ new ∷ []) (insert_sorted cmp new xs)
  inserted new [] = IsPermutation-refl (new ∷ [])
  inserted new (x ∷ xs) =
      elim (is_gt (cmp new x)) as (λ b. IsPermutation (x ∷ xs ++ new ∷ []) (cond b (x ∷ insert_sorted cmp new xs) (new ∷ x ∷ xs))) [
        | true ↦ IsPermutation-cons x (xs ++ new ∷ []) (insert_sorted cmp new xs) (inserted new xs)
        | false ↦ IsPermutation-to_front (x ∷ xs) new
      ]

  pub inserted_among : (new : X) (rows xs : List X) → IsPermutation rows xs → IsPermutation (rows ++ new ∷ []) (insert_sorted cmp new xs)
  inserted_among new rows xs same = IsPermutation-trans (rows ++ new ∷ []) (xs ++ new ∷ []) (insert_sorted cmp new xs) (IsPermutation-append_left (new ∷ []) rows xs same) (inserted new xs)

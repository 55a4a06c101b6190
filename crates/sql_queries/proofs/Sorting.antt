-- Lists that are sorted, and what passes of them.
use Rattle.std.proofs.Common.{◌≡◌, Bool, true, false, cond, ◌&&◌, List, [], ◌∷◌, filter, refl, ap, ◌∙◌, Ordering, Less, Equal, Greater, is_eq}
use Rattle.std.specs.Cmp.{IsTotalOrder}
use Rattle.std.specs.List.{AllByRecursion}
use Rattle.std.specs.Ordering.{ordering_reverse}
use Rattle.std.proofs.lemmas.List.Sorted.{list_any-IsPermutation}
use Rattle.sqlite_keyed.proofs.ListLemmas.{all_weaker, any_from_none}
use Rattle.sqlite_keyed.proofs.SortLemmas.{IsPermutation-sort_by}
use Rattle.sqlite_keyed.specs.Lists.{sort_by}
use Rattle.sqlite_trees.specs.Tree.{IsAscending}
use Rattle.sql_statements.proofs.KeyOrder.{rises_sorted}

pub filter_both : {X : Type 0} (p q : X → Bool) (xs : List X) → filter p (filter q xs) ≡ filter (λ x. q x && p x) xs
filter_both p q [] = refl
filter_both p q (x ∷ xs) =
    elim (q x) as (λ b. filter p (cond b (x ∷ filter q xs) (filter q xs)) ≡ cond (b && p x) (x ∷ filter (λ x. q x && p x) xs) (filter (λ x. q x && p x) xs))
    [ true ↦ ap (λ l. cond (p x) (x ∷ l) l) (filter_both p q xs) | false ↦ filter_both p q xs ]

module _ {X : Type 0} (p : X → Bool) (R S : X → X → Type 0) (follows : (a b : X) → p a ≡ true → p b ≡ true → R a b → S a b) where
  above_passing : (a : X) → p a ≡ true → (xs : List X) → AllByRecursion (R a) xs → AllByRecursion (S a) (filter p xs)
  above_passing a passes [] all = tt
  above_passing a passes (x ∷ xs) all = go (p x) refl (above_passing a passes xs all.1)
    where
      go : (b : Bool) → p x ≡ b → AllByRecursion (S a) (filter p xs) → AllByRecursion (S a) (cond b (x ∷ filter p xs) (filter p xs))
      go true e rest = (follows a x passes e all.0, rest)
      go false e rest = rest

  -- those that pass ascend by what follows of two that pass
  pub ascending_passing : (xs : List X) → IsAscending R xs → IsAscending S (filter p xs)
  ascending_passing [] up = tt
  ascending_passing (x ∷ xs) up = go (p x) refl (ascending_passing xs up.1)
    where
      go : (b : Bool) → p x ≡ b → IsAscending S (filter p xs) → IsAscending S (cond b (x ∷ filter p xs) (filter p xs))
      go true e rest = (above_passing x e xs up.0, rest)
      go false e rest = rest

module _ {X : Type 0} (cmp : X → X → Ordering) (total : IsTotalOrder cmp) where
  turned : (o : Ordering) → is_eq o ≡ false → is_eq (ordering_reverse o) ≡ false
  turned Less h = refl
  turned Equal h = h
  turned Greater h = refl

  -- a list with no ties, once it is sorted
  pub sorts_rise : (xs : List X) → IsAscending (λ a b. is_eq (cmp a b) ≡ false) xs → IsAscending (λ a b. cmp a b ≡ Less) (sort_by cmp xs)
  sorts_rise [] apart = tt
  sorts_rise (x ∷ xs) apart =
      rises_sorted cmp total x (sort_by cmp xs)
      (list_any-IsPermutation (λ y. is_eq (cmp y x)) _ _ (IsPermutation-sort_by cmp total xs)
      ∙ any_from_none _ xs (all_weaker _ (λ y. is_eq (cmp y x) ≡ false) (λ y e. ap is_eq (total.antisymm y x) ∙ turned (cmp x y) e) xs apart.0))
      (sorts_rise xs apart.1)

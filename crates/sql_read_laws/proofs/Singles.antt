-- Of rows whose keys differ each is the one of its key.
use Rattle.std.proofs.Common.{◌≡◌, Bool, true, false, cond, List, [], ◌∷◌, ◌++◌, filter, Option, Some, None, refl, sym, ap, ◌∙◌}
use Rattle.std.specs.Prelude.{flat_map, filter_map}
use Rattle.std.specs.List.{AllByRecursion, cons_option}
use Rattle.std.proofs.lemmas.List.Elements.{filter-append}
use Rattle.sqlite_trees.specs.Tree.{IsAscending}
use Rattle.sqlite_keyed.proofs.ListLemmas.{all_weaker, all_both, filter_all, filter_none}

module _ {X : Type 0} (R : X → X → Type 0) (key : X → X → Bool) (same : (x : X) → key x x ≡ true) (ahead : (x y : X) → R x y → key x y ≡ false) (behind : (x y : X) → R x y → key y x ≡ false) where
  pub each_alone : (xs : List X) → IsAscending R xs → AllByRecursion (λ x. filter (key x) xs ≡ x ∷ []) xs
  each_alone [] up = tt
  each_alone (y ∷ ys) up = (
    (λ i. cond (same y i) (y ∷ filter_none (key y) ys (all_weaker _ (λ z. key y z ≡ false) (ahead y) ys up.0) i) (filter (key y) ys)),
    all_both _ (R y) (λ x. filter (key x) (y ∷ ys) ≡ x ∷ []) (λ x alone below. ap (λ t. cond t (y ∷ filter (key x) ys) (filter (key x) ys)) (behind y x below) ∙ alone) ys (each_alone ys up.1) up.0,
  )

-- what passes of the rows' parts is the parts of the rows that pass
module _ {X Y : Type 0} (p : Y → Bool) (q : X → Bool) where
  pub filter-parts : (parts : X → List Y) → ((x : X) → AllByRecursion (λ y. p y ≡ q x) (parts x)) → (xs : List X) → filter p (flat_map parts xs) ≡ flat_map parts (filter q xs)
  filter-parts parts each [] = refl
  filter-parts parts each (x ∷ xs) = filter-append p (parts x) (flat_map parts xs) ∙ go (q x) (each x) (filter-parts parts each xs)
    where
      go : (t : Bool) → AllByRecursion (λ y. p y ≡ t) (parts x) → filter p (flat_map parts xs) ≡ flat_map parts (filter q xs)
          → filter p (parts x) ++ filter p (flat_map parts xs) ≡ flat_map parts (cond t (x ∷ filter q xs) (filter q xs))
      go true all more = λ i. filter_all p (parts x) all i ++ more i
      go false all more = λ i. filter_none p (parts x) all i ++ more i

  pub filter-part : (part : X → Option Y) → ((x : X) (y : Y) → part x ≡ Some y → p y ≡ q x) → (xs : List X) → filter p (filter_map part xs) ≡ filter_map part (filter q xs)
  filter-part part each [] = refl
  filter-part part each (x ∷ xs) = go (part x) (q x) refl refl (filter-part part each xs)
    where
      go : (o : Option Y) (t : Bool) → part x ≡ o → q x ≡ t → filter p (filter_map part xs) ≡ filter_map part (filter q xs)
          → filter p (cons_option o (filter_map part xs)) ≡ filter_map part (cond t (x ∷ filter q xs) (filter q xs))
      go None true is passes more = more ∙ ap (λ o. cons_option o (filter_map part (filter q xs))) (sym is)
      go None false is passes more = more
      go (Some y) true is passes more = (λ i. cond ((each x y is ∙ passes) i) (y ∷ more i) (more i)) ∙ ap (λ o. cons_option o (filter_map part (filter q xs))) (sym is)
      go (Some y) false is passes more = ap (λ t. cond t (y ∷ filter p (filter_map part xs)) (filter p (filter_map part xs))) (each x y is ∙ passes) ∙ more

-- Facts about each element of a list, by recursion on the list.
use Rattle.std.proofs.Common.{◌≡◌, Bool, true, List, [], ◌∷◌, ◌++◌, map, reverse, filter, zip}
use Rattle.std.specs.List.{flat_map, AllByRecursion}
use Rattle.std.proofs.lemmas.List.Elements.{All-append, All-filter, All-from_recursion, All-map, All-weaker, filter_passes, recursion_from_All}
use Rattle.desk_history.proofs.Basics.Elements.{all_flat_map, all_reverse, all_zip}

module _ {X : Type 0} (P : X → Type 0) where
  pub each-all : ((x : X) → P x) → (xs : List X) → AllByRecursion P xs
  each-all f [] = tt
  each-all f (x ∷ xs) = (f x, each-all f xs)

  pub each-append : (xs ys : List X) → AllByRecursion P xs → AllByRecursion P ys → AllByRecursion P (xs ++ ys)
  each-append xs ys h k = recursion_from_All P (xs ++ ys) (All-append P xs ys (All-from_recursion P xs h) (All-from_recursion P ys k))

  pub each-weaker : (Q : X → Type 0) → ((x : X) → P x → Q x) → (xs : List X) → AllByRecursion P xs → AllByRecursion Q xs
  each-weaker Q f xs h = recursion_from_All Q xs (All-weaker P Q f xs (All-from_recursion P xs h))

  pub each-reverse : (xs : List X) → AllByRecursion P xs → AllByRecursion P (reverse xs)
  each-reverse xs h = recursion_from_All P (reverse xs) (all_reverse P xs (All-from_recursion P xs h))

  pub each-map : {Y : Type 0} (f : Y → X) (ys : List Y) → AllByRecursion (λ y. P (f y)) ys → AllByRecursion P (map f ys)
  each-map f ys h = recursion_from_All P (map f ys) (All-map P f ys (All-from_recursion (λ y. P (f y)) ys h))

  pub each-flat_map : {Y : Type 0} (f : Y → List X) (ys : List Y) → AllByRecursion (λ y. AllByRecursion P (f y)) ys → AllByRecursion P (flat_map f ys)
  each-flat_map f ys h =
      recursion_from_All P (flat_map f ys) (all_flat_map P f ys
      (All-weaker (λ y. AllByRecursion P (f y)) _ (λ y. All-from_recursion P (f y)) ys (All-from_recursion (λ y. AllByRecursion P (f y)) ys h)))

  -- those that pass a test have what those that pass it are to have
  pub each-filter : (p : X → Bool) (xs : List X) → AllByRecursion (λ x. p x ≡ true → P x) xs → AllByRecursion P (filter p xs)
  each-filter p xs h =
      let have = All-filter p (λ x. p x ≡ true → P x) xs (All-from_recursion (λ x. p x ≡ true → P x) xs h) in
      recursion_from_All P (filter p xs) (λ k d within. have k d within (filter_passes p xs k d within))

pub each-zip : {X Y : Type 0} (P : Y → Type 0) (xs : List X) (ys : List Y) → AllByRecursion P ys → AllByRecursion (λ (z : X × Y). P z.1) (zip xs ys)
each-zip {X} {Y} P xs ys h = recursion_from_All (λ (z : X × Y). P z.1) (zip xs ys) (all_zip P xs ys (All-from_recursion P ys h))

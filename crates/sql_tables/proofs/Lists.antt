-- Tests and look-ups one after another.
use Rattle.std.proofs.Common.{◌≡◌, ℕ, zero, suc, ◌+◌, Bool, true, false, ◌&&◌, cond, List, [], ◌∷◌, ◌++◌, map, filter, find, reverse, slice_get, Option, Some, None, option_map, unwrap_or, length, refl, sym, subst, ap, ◌∙◌, arith}
use Rattle.std.specs.Option.{option_or}
use Rattle.std.specs.List.{AllPairs, Contains, AllByRecursion, enumerate_from, range_with_len}
use Rattle.std.proofs.lemmas.List.{reverse-append}
use Rattle.std.proofs.lemmas.List.Elements.{recursion_from_All, All-from_recursion}
use Rattle.sqlite_trees.specs.Tree.{IsAscending}
use Rattle.sql_tables.specs.TableReads.{number_of_last}

module _ {X : Type 0} (p q : X → Bool) where
  pub filter-both : (xs : List X) → filter p (filter q xs) ≡ filter (λ x. q x && p x) xs
  filter-both [] = refl
  filter-both (x ∷ xs) = elim (q x) as (λ t. filter p (cond t (x ∷ filter q xs) (filter q xs)) ≡ cond (t && p x) (x ∷ filter (λ y. q y && p y) xs) (filter (λ y. q y && p y) xs)) [
    | true ↦ ap (λ more. cond (p x) (x ∷ more) more) (filter-both xs)
    | false ↦ filter-both xs
  ]

  pub find-both : (xs : List X) → find p (filter q xs) ≡ find (λ x. q x && p x) xs
  find-both [] = refl
  find-both (x ∷ xs) = elim (q x) as (λ t. find p (cond t (x ∷ filter q xs) (filter q xs)) ≡ cond (t && p x) (Some x) (find (λ y. q y && p y) xs)) [
    | true ↦ ap (λ more. cond (p x) (Some x) more) (find-both xs)
    | false ↦ find-both xs
  ]

  pub filter_agrees : (xs : List X) → AllByRecursion (λ x. p x ≡ q x) xs → filter p xs ≡ filter q xs
  filter_agrees [] same = refl
  filter_agrees (x ∷ xs) same = λ i. cond (same.0 i) (x ∷ filter_agrees xs same.1 i) (filter_agrees xs same.1 i)

  pub find_agrees : (xs : List X) → AllByRecursion (λ x. p x ≡ q x) xs → find p xs ≡ find q xs
  find_agrees [] same = refl
  find_agrees (x ∷ xs) same = λ i. cond (same.0 i) (Some x) (find_agrees xs same.1 i)

module _ {X Y : Type 0} where
  pub find-map : (p : Y → Bool) (f : X → Y) (xs : List X) → find p (map f xs) ≡ option_map f (find (λ x. p (f x)) xs)
  find-map p f [] = refl
  find-map p f (x ∷ xs) = elim (p (f x)) as (λ t. cond t (Some (f x)) (find p (map f xs)) ≡ option_map f (cond t (Some x) (find (λ y. p (f y)) xs))) [
    | true ↦ refl
    | false ↦ find-map p f xs
  ]

  pub map_agrees : (f g : X → Y) (xs : List X) → AllByRecursion (λ x. f x ≡ g x) xs → map f xs ≡ map g xs
  map_agrees f g [] same = refl
  map_agrees f g (x ∷ xs) same = λ i. same.0 i ∷ map_agrees f g xs same.1 i

  pub found_agrees : (f g : X → Y) (p : X → Bool) (xs : List X) → AllByRecursion (λ x. f x ≡ g x) xs → option_map f (find p xs) ≡ option_map g (find p xs)
  found_agrees f g p [] same = refl
  found_agrees f g p (x ∷ xs) same = elim (p x) as (λ t. option_map f (cond t (Some x) (find p xs)) ≡ option_map g (cond t (Some x) (find p xs))) [
    | true ↦ ap Some same.0
    | false ↦ found_agrees f g p xs same.1
  ]

pub option_map-map : {X Y Z : Type 0} (g : Y → Z) (f : X → Y) (o : Option X) → option_map g (option_map f o) ≡ option_map (λ x. g (f x)) o
option_map-map g f None = refl
option_map-map g f (Some x) = refl

-- what is found passes, and is one of them
pub found_passes : {X : Type 0} (P : X → Type 0) (p : X → Bool) (xs : List X) (x : X) → AllByRecursion P xs → find p xs ≡ Some x → P x × (p x ≡ true)
found_passes P p [] x all is = absurd (let e = is in cc)
found_passes P p (y ∷ ys) x all is = go (p y) refl is (found_passes P p ys x all.1)
  where
    go : (t : Bool) → p y ≡ t → cond t (Some y) (find p ys) ≡ Some x → (find p ys ≡ Some x → P x × (p x ≡ true)) → P x × (p x ≡ true)
    go true here some more = let same : y ≡ x = (let e = some in cc) in (subst P same all.0, subst (λ z. p z ≡ true) same here)
    go false away some more = more some

-- pairs at indexes are pairs in a list
pub ascending_from_pairs : {X : Type 0} (R : X → X → Type 0) (xs : List X) → AllPairs R xs → IsAscending R xs
ascending_from_pairs R [] pairs = tt
ascending_from_pairs R (x ∷ xs) pairs =
    (recursion_from_All (R x) xs (λ k d within. pairs 0 (suc k) d (omega arith) (omega arith)), ascending_from_pairs R xs (λ i j d below within. pairs (suc i) (suc j) d (omega arith) (omega arith)))

-- what holds of all holds of each
pub of_contained : {X : Type 0} (P : X → Type 0) (xs : List X) (x : X) → AllByRecursion P xs → Contains xs x → P x
of_contained P xs x all has = subst P has.2 (All-from_recursion P xs all has.0 x has.1)

-- ---- ends

pub first-append : {X : Type 0} (xs ys : List X) → slice_get (xs ++ ys) 0 ≡ option_or (slice_get xs 0) (slice_get ys 0)
first-append [] ys = refl
first-append (x ∷ xs) ys = refl

pub last-cons : {X : Type 0} (x : X) (xs : List X) → slice_get (reverse (x ∷ xs)) 0 ≡ option_or (slice_get (reverse xs) 0) (Some x)
last-cons x xs = ap (λ l. slice_get l 0) (reverse-append (x ∷ []) xs) ∙ first-append (reverse xs) (x ∷ [])

-- the last of numbers that go up by one
pub last_of_range : (k n : ℕ) → slice_get (reverse (range_with_len k (suc n))) 0 ≡ Some (k + n)
last_of_range k zero = ap Some (omega arith)
last_of_range k (suc n) =
    last-cons k (range_with_len (k + 1) (suc n))
    ∙ ap (λ o. option_or o (Some k)) (last_of_range (k + 1) n)
    ∙ ap Some (omega arith)

module _ {X Y : Type 0} (f : X → Y) where
  map-last : (x : X) (o : Option X) → option_map f (option_or o (Some x)) ≡ option_or (option_map f o) (Some (f x))
  map-last x None = refl
  map-last x (Some y) = refl

  pub last-map : (xs : List X) → option_map f (slice_get (reverse xs) 0) ≡ slice_get (reverse (map f xs)) 0
  last-map [] = refl
  last-map (x ∷ xs) =
      ap (option_map f) (last-cons x xs)
      ∙ map-last x (slice_get (reverse xs) 0)
      ∙ ap (λ o. option_or o (Some (f x))) (last-map xs)
      ∙ sym (last-cons (f x) (map f xs))

-- ---- numbers

-- of what is numbered from 1 on, the last number is the count
pub last_counts : {X : Type 0} (number : X → ℕ) (xs : List X) (n : ℕ) → map number xs ≡ range_with_len 1 n → number_of_last number xs ≡ n
last_counts number xs n is = ap (λ o. unwrap_or o 0) (last-map number xs) ∙ ap (λ l. unwrap_or (slice_get (reverse l) 0) 0) is ∙ go n
  where
    go : (n : ℕ) → unwrap_or (slice_get (reverse (range_with_len 1 n)) 0) 0 ≡ n
    go zero = refl
    go (suc n) = ap (λ (o : Option ℕ). unwrap_or o 0) (last_of_range 1 n) ∙ (let e : 1 + n ≡ suc n = omega arith in e)

-- what is enumerated has the numbers from there on
pub enumerated_numbers : {X : Type 0} (n : ℕ) (xs : List X) → map (λ (p : ℕ × X). p.0) (enumerate_from n xs) ≡ range_with_len n (length xs)
enumerated_numbers n [] = refl
enumerated_numbers n (x ∷ xs) = ap (λ l. n ∷ l) (enumerated_numbers (n + 1) xs)

-- without their numbers they are what they were
pub unnumbered : {X : Type 0} (n : ℕ) (xs : List X) → map (λ (p : ℕ × X). p.1) (enumerate_from n xs) ≡ xs
unnumbered n [] = refl
unnumbered n (x ∷ xs) = ap (λ l. x ∷ l) (unnumbered (n + 1) xs)

pub filter-unnumbered : {X : Type 0} (p : X → Bool) (n : ℕ) (xs : List X) → map (λ (z : ℕ × X). z.1) (filter (λ z. p z.1) (enumerate_from n xs)) ≡ filter p xs
filter-unnumbered p n [] = refl
filter-unnumbered p n (x ∷ xs) = elim (p x) as (λ t. map (λ (z : ℕ × _). z.1) (cond t ((n, x) ∷ filter (λ z. p z.1) (enumerate_from (n + 1) xs)) (filter (λ z. p z.1) (enumerate_from (n + 1) xs))) ≡ cond t (x ∷ filter p xs) (filter p xs)) [
  | true ↦ ap (λ l. x ∷ l) (filter-unnumbered p (n + 1) xs)
  | false ↦ filter-unnumbered p (n + 1) xs
]

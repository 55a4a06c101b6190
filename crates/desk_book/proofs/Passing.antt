-- The elements that pass several tests in turn, of one list and of several.
use Rattle.std.proofs.Common.{◌≡◌, List, [], ◌∷◌, ◌++◌, map, length, Bool, true, false, ◌&&◌, refl, ap, ◌∙◌}
use Rattle.std.specs.Prelude.{if◌then◌else◌, filter, sum_by, count_by}
use Rattle.std.specs.List.{flat_map, AllByRecursion}
use Rattle.std.proofs.lemmas.List.{length-map, map-append}
use Rattle.std.proofs.lemmas.List.Concat.{length-flat_map}
use Rattle.std.proofs.lemmas.List.Elements.{filter-append}
use Rattle.std.proofs.lemmas.List.Sums.{length-filter}

-- ---- one list

-- a test before what is made of an element, and two after it
pub passing : {X Y : Type 0} (held : X → Bool) (g : X → Y) (due test : Y → Bool) (xs : List X)
    → filter test (filter due (map g (filter held xs))) ≡ map g (filter (λ x. (held x && due (g x)) && test (g x)) xs)
passing held g due test [] = refl
passing {X} held g due test (x ∷ xs) =
    let rest = filter held xs in
    let chosen : List X = filter (λ x. (held x && due (g x)) && test (g x)) xs in
    let same = passing held g due test xs in
    elim (held x) as (λ (a : Bool).
    filter test (filter due (map g (if a then x ∷ rest else rest))) ≡ map g (if (a && due (g x)) && test (g x) then x ∷ chosen else chosen)) [
      | true ↦
          elim (due (g x)) as (λ (b : Bool).
          filter test (if b then g x ∷ filter due (map g rest) else filter due (map g rest)) ≡ map g (if b && test (g x) then x ∷ chosen else chosen)) [
            | true ↦
                elim (test (g x)) as (λ (c : Bool).
                (if c then g x ∷ filter test (filter due (map g rest)) else filter test (filter due (map g rest))) ≡ map g (if c then x ∷ chosen else chosen)) [
                  | true ↦ ap (λ (more : List _). g x ∷ more) same
                  | false ↦ same
                ]
            | false ↦ same
          ]
      | false ↦ same
    ]

-- the results for the elements that pass, if one list is mapped from another
pub same_chosen : {X Y Z : Type 0} (f : X → Z) (g : Y → Z) (r : X → Y) (p : X → Bool) (q : Y → Bool) (xs : List X)
    → AllByRecursion (λ x. (q (r x) ≡ p x) × (p x ≡ true → g (r x) ≡ f x)) xs → map g (filter q (map r xs)) ≡ map f (filter p xs)
same_chosen f g r p q [] same = refl
same_chosen {X} {Y} {Z} f g r p q (x ∷ xs) same =
    let rest = same_chosen f g r p q xs same.1 in
    ap (λ (t : Bool). map g (if t then r x ∷ filter q (map r xs) else filter q (map r xs))) same.0.0
    ∙ elim (p x) as (λ (t : Bool). (t ≡ true → g (r x) ≡ f x) → map g (if t then r x ∷ filter q (map r xs) else filter q (map r xs)) ≡ map f (if t then x ∷ filter p xs else filter p xs)) [
      | true ↦ λ here. (λ i. here refl i ∷ rest i)
      | false ↦ λ here. rest
    ] same.0.1

-- ---- several lists

pub passing_all : {K X Y : Type 0} (held : X → Bool) (g : K → X → Y) (due test : Y → Bool) (rows : K → List X) (ks : List K)
    → filter test (filter due (flat_map (λ k. map (g k) (filter held (rows k))) ks)) ≡ flat_map (λ k. map (g k) (filter (λ x. (held x && due (g k x)) && test (g k x)) (rows k))) ks
passing_all held g due test rows [] = refl
passing_all held g due test rows (k ∷ ks) =
    ap (filter test) (filter-append due (map (g k) (filter held (rows k))) (flat_map (λ k. map (g k) (filter held (rows k))) ks))
    ∙ filter-append test (filter due (map (g k) (filter held (rows k)))) (filter due (flat_map (λ k. map (g k) (filter held (rows k))) ks))
    ∙ (λ i. passing held (g k) due test (rows k) i ++ passing_all held g due test rows ks i)

pub map-flat_map : {X Y Z : Type 0} (f : Y → Z) (h : X → List Y) (xs : List X) → map f (flat_map h xs) ≡ flat_map (λ x. map f (h x)) xs
map-flat_map f h [] = refl
map-flat_map {Z = Z} f h (x ∷ xs) = map-append f (h x) (flat_map h xs) ∙ ap (λ (more : List Z). map f (h x) ++ more) (map-flat_map f h xs)

-- how many pass
pub length_chosen : {K X Y : Type 0} (f : K → X → Y) (p : K → X → Bool) (rows : K → List X) (ks : List K)
    → length (flat_map (λ k. map (f k) (filter (p k) (rows k))) ks) ≡ sum_by (λ k. count_by (p k) (rows k)) ks
length_chosen f p rows ks =
    length-flat_map (λ k. map (f k) (filter (p k) (rows k))) ks
    ∙ (λ i. sum_by (λ k. (length-map (filter (p k) (rows k)) (f k) ∙ length-filter (p k) (rows k)) i) ks)

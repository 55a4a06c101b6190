-- Lists that are read item by item.
use Rattle.std.proofs.Common.{◌≡◌, ◌∙◌, ap, sym, Option, List, [], ◌∷◌, ◌++◌, map, refl}
use Rattle.std.proofs.lemmas.List.{append-nil}
use Rattle.std.specs.List.{flat_map, cons_option}
use Rattle.std.specs.Prelude.{filter_map}

-- one more is read, and the rest is as it was
read_one : {X Y Z : Type 0} (show : X → Z) (f : Y → Z) (xs : List X) (x : X) (y : Y) (ys : List Y) → show x ≡ f y → map show xs ++ map f (y ∷ ys) ≡ map show (xs ++ x ∷ []) ++ map f ys
read_one show f [] x y ys is = ap (λ z. z ∷ map f ys) (sym is)
read_one show f (w ∷ xs) x y ys is = ap (λ l. show w ∷ l) (read_one show f xs x y ys is)

-- what was read so far and what belongs to the items that are left are all that there is; so with one more
pub read_more : {X Y Z : Type 0} (show : X → Z) (f : Y → Z) (all : List Z) (xs more : List X) (x : X) (left : List Y) (y : Y) (ys : List Y)
    → all ≡ map show xs ++ map f left → left ≡ y ∷ ys → more ≡ xs ++ x ∷ [] → show x ≡ f y → all ≡ map show more ++ map f ys
read_more show f all xs more x left y ys are first pushed is = are ∙ ap (λ l. map show xs ++ map f l) first ∙ read_one show f xs x y ys is ∙ ap (λ l. map show l ++ map f ys) (sym pushed)

-- no item is left
pub read_all : {X Y Z : Type 0} (show : X → Z) (f : Y → Z) (all : List Z) (xs : List X) (left : List Y) → all ≡ map show xs ++ map f left → left ≡ [] → map show xs ≡ all
read_all show f all xs left are none = sym (are ∙ ap (λ l. map show xs ++ map f l) none ∙ append-nil (map show xs))

-- lists that were read of each item, in one
pub flat_map_same : {X Y Z : Type 0} (show : X → List Z) (f : Y → List Z) (xs : List X) (ys : List Y) → map show xs ≡ map f ys → flat_map show xs ≡ flat_map f ys
flat_map_same show f [] [] e = refl
flat_map_same show f [] (y ∷ ys) e = cc
flat_map_same show f (x ∷ xs) [] e = cc
flat_map_same show f (x ∷ xs) (y ∷ ys) e =
    let first : show x ≡ f y = cc in
    let rest = flat_map_same show f xs ys (let h = e in cc) in
    λ i. first i ++ rest i

-- those that there are of each item
pub filter_map_all : {X Z : Type 0} (f : X → Option Z) (xs : List X) → filter_map (λ o. o) (map f xs) ≡ filter_map f xs
filter_map_all f [] = refl
filter_map_all f (x ∷ xs) = ap (cons_option (f x)) (filter_map_all f xs)

-- What an array has, where each place is made of the value at the same place of a list.
use Rattle.std.proofs.Common.{◌≡◌, ◌<◌, ◌+◌, ℕ, suc, List, [], ◌∷◌, ◌++◌, map, take, length, slice_index_or, slice_set, sym, ap, ap₂, ◌∙◌, refl, arith, Bor}
use Rattle.std.specs.List.{enumerate_from, flat_map}
use Rattle.std.proofs.lemmas.List.{take_more_set, map-append}
use Rattle.sqlite.specs.Values.{bound}
use Rattle.sqlite_keyed.proofs.ListLemmas.{map-map}
use Rattle.sqlite_value.specs.Order.{Row}
use Rattle.sqlite_value.specs.declared.value.ValueRef.{ValueRef}
use Rattle.sql_tables.proofs.KeptRows.{numbered_append}

-- what the elements of the one are seen as is what is wanted of those of the other, place by place
mapped : {A B C : Type 0} (seen : B → C) (wanted : A → C) (xs : List A) (ys : List B) → length ys ≡ length xs
    → ((i : ℕ) (d : A) (e : B) → i < length ys → seen (slice_index_or ys i e) ≡ wanted (slice_index_or xs i d)) → map seen ys ≡ map wanted xs
mapped seen wanted [] [] long same = refl
mapped seen wanted [] (y ∷ ys) long same = cc
mapped seen wanted (x ∷ xs) [] long same = cc
mapped {A} {B} seen wanted (x ∷ xs) (y ∷ ys) long same =
    ap₂ (λ z l. z ∷ l) (same 0 x y (omega arith)) (mapped seen wanted xs ys (omega (arith, long)) (λ (i : ℕ) (d : A) (e : B) (below : i < length ys). same (suc i) d e (omega (arith, below))))

-- the values of sixteen rows, which were made of a reference to each
pub values_are : {B : Type 0} (stored : B → Row) (from : List B) (rows : List (Bor B)) (made : List (List ValueRef)) → map (λ r. r.now) rows ≡ from → length rows ≡ 16 → length made ≡ 16
    → ((i : ℕ) (d : Bor B) (e : List ValueRef) → i < 16 → bound (slice_index_or made i e) ≡ stored (slice_index_or rows i d).now) → map bound made ≡ map stored from
values_are {B} stored from rows made are many long same =
    mapped bound (λ r. stored r.now) rows made (long ∙ sym many) (λ (i : ℕ) (d : Bor B) (e : List ValueRef) (below : i < length made). same i d e (omega (arith, below, long)))
    ∙ sym (map-map stored (λ r. r.now) rows)
    ∙ ap (map stored) are

-- a list with one more value, whose values are numbered on
pub numbered_one : {A : Type 0} (first at : ℕ) (xs ys : List A) (x : A) → ys ≡ xs ++ x ∷ [] → length xs ≡ at → enumerate_from first ys ≡ enumerate_from first xs ++ (first + at, x) ∷ []
numbered_one first at xs ys x is long =
    ap (enumerate_from first) is ∙ numbered_append first xs (x ∷ [])
    ∙ ap (λ n. enumerate_from first xs ++ (n, x) ∷ []) (let place : length xs + first ≡ first + at = omega (arith, long) in place)

-- the same of values that are numbered on from a first number
pub numbered_more : {A B : Type 0} (wanted : ℕ × A → B) (made : List B) (from : List A) (first at : ℕ) (v : B) (x : A) → at < length made → take (at + 1) from ≡ take at from ++ x ∷ [] → length (take at from) ≡ at
    → v ≡ wanted (first + at, x) → take at made ≡ map wanted (enumerate_from first (take at from)) → take (at + 1) (slice_set made at v) ≡ map wanted (enumerate_from first (take (at + 1) from))
numbered_more wanted made from first at v x inside more long here before =
    take_more_set made at v inside
    ∙ ap₂ (λ l z. l ++ z ∷ []) before here
    ∙ sym (ap (map wanted) (numbered_one first at (take at from) (take (at + 1) from) x more long) ∙ map-append wanted (enumerate_from first (take at from)) ((first + at, x) ∷ []))

bound_flat : (vs : List (List ValueRef)) → bound (flat_map (λ v. v) vs) ≡ flat_map (λ v. v) (map bound vs)
bound_flat [] = refl
bound_flat (v ∷ vs) = map-append _ v (flat_map (λ v. v) vs) ∙ ap (λ l. bound v ++ l) (bound_flat vs)

-- the parameters of a statement of many rows, each row as it is stored
pub bound_rows : {A B C : Type 0} (stored : B → Row) (make : A → B) (encode : C → Row) (kept : A → C) → ((x : A) → stored (make x) ≡ encode (kept x)) → (xs : List A) (vs : List (List ValueRef))
    → map bound vs ≡ map stored (map make xs) → bound (flat_map (λ v. v) vs) ≡ flat_map encode (map kept xs)
bound_rows {A} {B} {C} stored make encode kept same xs vs are = bound_flat vs ∙ ap (flat_map (λ v. v)) are ∙ flat xs
  where
    flat : (xs : List A) → flat_map (λ v. v) (map stored (map make xs)) ≡ flat_map encode (map kept xs)
    flat [] = refl
    flat (x ∷ xs) = ap₂ (λ r l. r ++ l) (same x) (flat xs)

-- Facts about each element of a list that is made of other lists.
use Rattle.std.proofs.Common.{◌≡◌, ℕ, suc, ◌+◌, ◌-◌, ◌≤◌, List, [], ◌∷◌, ◌++◌, true, ◌==◌, refl, sym, ap, ◌∙◌, arith, Some, reverse, slice_get, bytes_eq, All}
use Rattle.std.specs.List.{flat_map, enumerate_from, zip}
use Rattle.std.proofs.lemmas.Bool.Decides.{same_from_decides, Decides-like, Decides-eqb}
use Rattle.std.proofs.lemmas.List.Elements.{All-nil, All-cons, All-head, All-tail, All-append, All-same, All-weaker}
use Rattle.std.proofs.lemmas.List.{reverse-append}
use Rattle.std.proofs.lemmas.Slice.Eq.{bytes_eq-Decides}

pub same_text : (a : List ℕ) → bytes_eq a a ≡ true
same_text a = (bytes_eq-Decides a a).1 refl

pub texts_turned : (a b : List ℕ) → bytes_eq a b ≡ bytes_eq b a
texts_turned a b = same_from_decides (bytes_eq a b) (bytes_eq b a) (bytes_eq-Decides a b) (Decides-like (bytes_eq b a) sym sym (bytes_eq-Decides b a))

pub numbers_turned : (m n : ℕ) → m == n ≡ n == m
numbers_turned m n = same_from_decides (m == n) (n == m) (Decides-eqb m n) (Decides-like (n == m) sym sym (Decides-eqb n m))

pub all_flat_map : {X Y : Type 0} (P : Y → Type 0) (f : X → List Y) (xs : List X) → All (λ x. All P (f x)) xs → All P (flat_map f xs)
all_flat_map P f [] all = All-nil P
all_flat_map P f (x ∷ xs) all = All-append P (f x) (flat_map f xs) (All-head (λ x. All P (f x)) x xs all) (all_flat_map P f xs (All-tail (λ x. All P (f x)) x xs all))

pub all_reverse : {X : Type 0} (P : X → Type 0) (xs : List X) → All P xs → All P (reverse xs)
all_reverse P [] all = All-nil P
all_reverse P (x ∷ xs) all =
    All-same P (reverse (x ∷ xs)) (reverse xs ++ x ∷ []) (reverse-append (x ∷ []) xs)
    (All-append P (reverse xs) (x ∷ []) (all_reverse P xs (All-tail P x xs all)) (All-cons P x [] (All-head P x xs all) (All-nil P)))

pub all_zip : {X Y : Type 0} (P : Y → Type 0) (xs : List X) (ys : List Y) → All P ys → All (λ z. P z.1) (zip xs ys)
all_zip P [] ys all = All-nil _
all_zip P (x ∷ xs) [] all = All-nil _
all_zip P (x ∷ xs) (y ∷ ys) all = All-cons (λ z. P z.1) (x, y) (zip xs ys) (All-head P y ys all) (all_zip P xs ys (All-tail P y ys all))

-- a numbered element is at its number
abbrev pub StandsIn : {X : Type 0} → ℕ → List X → ℕ × X → Type 0
StandsIn n xs x = (n ≤ x.0) × (slice_get xs (x.0 - n) ≡ Some x.1)

pub numbered : {X : Type 0} (n : ℕ) (xs : List X) → All (StandsIn n xs) (enumerate_from n xs)
numbered n [] = All-nil _
numbered {X = X} n (x ∷ xs) =
    All-cons (StandsIn n (x ∷ xs)) (n, x) (enumerate_from (n + 1) xs)
    (omega arith, ap (slice_get (x ∷ xs)) (let e : n - n ≡ 0 = omega arith in e))
    (All-weaker (StandsIn (n + 1) xs) (StandsIn n (x ∷ xs)) (λ y h. behind y h) (enumerate_from (n + 1) xs) (numbered (n + 1) xs))
  where
    behind : (y : ℕ × X) → StandsIn (n + 1) xs y → StandsIn n (x ∷ xs) y
    behind y h =
        let le : n + 1 ≤ y.0 = h.0 in
        (omega arith, ap (slice_get (x ∷ xs)) (let e : y.0 - n ≡ suc (y.0 - (n + 1)) = omega arith in e) ∙ h.1)

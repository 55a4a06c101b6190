-- The first fault among bytes.
use Rattle.std.proofs.Common.{subst, zero, ◌-◌, take_all, length-drop, ◌≡◌, ℕ, suc, ◌+◌, ◌<◌, List, [], ◌∷◌, ◌++◌, Option, Some, None, length, get_or, take, drop, refl, sym, ap, ◌∙◌, arith, append_assoc, drop-cons, inl, inr}
use Rattle.std.proofs.lemmas.List.{append-nil, take_more, take-append-drop}
use Rattle.std.proofs.lemmas.List.Sums.{fold_push}
use Rattle.ach_files.specs.declared.fault.Fault.{Fault}
use Rattle.ach_files.specs.Layout.{next_layout, layout, start}
use Rattle.ach_files.specs.FirstFault.{first_fault, early_fault, place_fault, or_else, Tells}

pub layout_more : (bytes : List ℕ) (b : ℕ) → layout (bytes ++ b ∷ []) ≡ next_layout (layout bytes) b
unfolding layout
layout_more bytes b = fold_push next_layout start bytes b

or_assoc : (x y z : Option Fault) → or_else (or_else x y) z ≡ or_else x (or_else y z)
or_assoc None y z = refl
or_assoc (Some f) y z = refl

pub first_append : (seen xs ys : List ℕ) → first_fault seen (xs ++ ys) ≡ or_else (first_fault seen xs) (first_fault (seen ++ xs) ys)
unfolding first_fault
first_append seen [] ys = ap (λ s. first_fault s ys) (sym (append-nil seen))
first_append seen (x ∷ xs) ys =
    ap (or_else (place_fault (length seen) (layout seen) x)) (first_append (seen ++ x ∷ []) xs ys ∙ ap (λ s. or_else (first_fault (seen ++ x ∷ []) xs) (first_fault s ys)) (append_assoc seen (x ∷ []) xs))
    ∙ sym (or_assoc (place_fault (length seen) (layout seen) x) (first_fault (seen ++ x ∷ []) xs) (first_fault (seen ++ x ∷ xs) ys))

pub early_more : (bytes : List ℕ) (b : ℕ) → early_fault bytes ≡ None → place_fault (length bytes) (layout bytes) b ≡ None → early_fault (bytes ++ b ∷ []) ≡ None
unfolding first_fault
early_more bytes b h p = first_append [] bytes (b ∷ []) ∙ rw (h, p) refl

pub early_told : (bytes : List ℕ) (b : ℕ) (rest : List ℕ) (f : Fault) → early_fault bytes ≡ None → place_fault (length bytes) (layout bytes) b ≡ Some f → early_fault (bytes ++ b ∷ rest) ≡ Some f
unfolding first_fault
early_told bytes b rest f h p = first_append [] bytes (b ∷ rest) ∙ rw (h, p) refl

pub split_at : (piece : List ℕ) (i : ℕ) → i < length piece → piece ≡ take i piece ++ get_or piece i 0 ∷ drop (i + 1) piece
split_at piece i lt = let one : i + 1 ≡ suc i = omega arith in
    sym (take-append-drop i piece) ∙ ap (λ d. take i piece ++ d) (drop-cons piece i 0 lt ∙ ap (λ n. get_or piece i 0 ∷ drop n piece) (sym one))

pub taken_more : (bytes piece : List ℕ) (i : ℕ) → i < length piece → bytes ++ take (i + 1) piece ≡ (bytes ++ take i piece) ++ get_or piece i 0 ∷ []
taken_more bytes piece i lt = ap (λ t. bytes ++ t) (take_more piece i 0 lt) ∙ sym (append_assoc bytes (take i piece) (get_or piece i 0 ∷ []))

pub taken_split : (bytes piece : List ℕ) (i : ℕ) → i < length piece → bytes ++ piece ≡ (bytes ++ take i piece) ++ get_or piece i 0 ∷ drop (i + 1) piece
taken_split bytes piece i lt = ap (λ t. bytes ++ t) (split_at piece i lt) ∙ sym (append_assoc bytes (take i piece) (get_or piece i 0 ∷ drop (i + 1) piece))

pub tells_early : (bytes : List ℕ) (b : ℕ) (rest : List ℕ) (f : Fault) → early_fault bytes ≡ None → Tells f (place_fault (length bytes) (layout bytes) b) → Tells f (early_fault (bytes ++ b ∷ rest))
tells_early bytes b rest f h (inl memory) = inl memory
tells_early bytes b rest f h (inr here) = inr (early_told bytes b rest f h here)

pub tells_first : (f : Fault) (o p : Option Fault) → Tells f o → Tells f (or_else o p)
tells_first f o p (inl memory) = inl memory
tells_first f o p (inr here) = inr (rw here refl)

-- a fault in a prefix of the piece
pub tells_prefix : (seen piece : List ℕ) (n : ℕ) (f : Fault) → Tells f (early_fault (seen ++ take n piece)) → Tells f (early_fault (seen ++ piece))
tells_prefix seen piece n f told =
    let e : seen ++ piece ≡ (seen ++ take n piece) ++ drop n piece = ap (λ p. seen ++ p) (sym (take-append-drop n piece)) ∙ sym (append_assoc seen (take n piece) (drop n piece)) in
    subst (λ (o : Option Fault). Tells f o) (sym (ap early_fault e ∙ first_append [] (seen ++ take n piece) (drop n piece))) (tells_first f (early_fault (seen ++ take n piece)) (first_fault (seen ++ take n piece) (drop n piece)) told)

-- the first byte of a piece
pub first_taken : (piece : List ℕ) → 0 < length piece → take 1 piece ≡ get_or piece 0 0 ∷ []
first_taken piece lt = take_more piece 0 0 lt

nothing_taken : (k : ℕ) → take {A = ℕ} k [] ≡ []
nothing_taken zero = refl
nothing_taken (suc k) = refl

taken_on : (n k : ℕ) (xs : List ℕ) → take (n + k) xs ≡ take n xs ++ take k (drop n xs)
taken_on zero k xs = let z : 0 + k ≡ k = omega arith in rw z refl
taken_on (suc n) k [] = let s : suc n + k ≡ suc (n + k) = omega arith in rw (s, nothing_taken k) refl
taken_on (suc n) k (x ∷ xs) = let s : suc n + k ≡ suc (n + k) = omega arith in rw s (ap (λ l. x ∷ l) (taken_on n k xs))

-- the rest of a piece, as a slice of it
rest_is : (piece : List ℕ) (n : ℕ) → take (length piece - n) (drop n piece) ≡ drop n piece
rest_is piece n = take_all (length piece - n) (drop n piece) (omega (arith, length-drop n piece))

-- k more bytes of the piece
pub more_taken : (bytes piece : List ℕ) (n k : ℕ) → (bytes ++ take n piece) ++ take k (take (length piece - n) (drop n piece)) ≡ bytes ++ take (n + k) piece
more_taken bytes piece n k =
    ap (λ r. (bytes ++ take n piece) ++ take k r) (rest_is piece n) ∙ append_assoc bytes (take n piece) (take k (drop n piece)) ∙ sym (ap (λ t. bytes ++ t) (taken_on n k piece))

pub rest_left : (bytes piece : List ℕ) (n : ℕ) → (bytes ++ take n piece) ++ take (length piece - n) (drop n piece) ≡ bytes ++ piece
rest_left bytes piece n =
    ap (λ r. (bytes ++ take n piece) ++ r) (rest_is piece n) ∙ append_assoc bytes (take n piece) (drop n piece) ∙ ap (λ p. bytes ++ p) (take-append-drop n piece)

-- A change of the one element of a list that has a number.
use Rattle.std.proofs.Common.{◌≡◌, ◌<◌, ◌≤◌, ℕ, suc, zero, ◌+◌, List, [], ◌∷◌, map, true, false, refl, get_or, set, length, arith}
use Rattle.std.specs.Prelude.{◌==◌, if◌then◌else◌}
use Rattle.std.specs.List.{enumerate_from}
use Rattle.std.proofs.lemmas.Bool.{eq-eqb, ne_eqb}

-- with f of the element of the number n
abbrev pub changed_of : {X : Type 0} → (X → X) → ℕ → ℕ × X → X
changed_of f n y = if y.0 == n then f y.1 else y.1

-- no element has a number before the first
pub numbered_before : {X : Type 0} (f : X → X) (n first : ℕ) (xs : List X) → n < first → map (changed_of f n) (enumerate_from first xs) ≡ xs
numbered_before f n first [] before = refl
numbered_before f n first (x ∷ xs) before =
    let apart : (first == n) ≡ false = ne_eqb first n (λ e. omega (arith, e)) in
    (λ i. (if apart i then f x else x) ∷ numbered_before f n (first + 1) xs (omega arith) i)

-- nor one past the last
pub numbered_past : {X : Type 0} (f : X → X) (n first : ℕ) (xs : List X) → first + length xs ≤ n → map (changed_of f n) (enumerate_from first xs) ≡ xs
numbered_past f n first [] past = refl
numbered_past f n first (x ∷ xs) past =
    let apart : (first == n) ≡ false = ne_eqb first n (λ e. omega (arith, e)) in
    (λ i. (if apart i then f x else x) ∷ numbered_past f n (first + 1) xs (omega arith) i)

-- an element with a number in range is at its place
pub numbered_at : {X : Type 0} (f : X → X) (n first : ℕ) (xs : List X) (at : ℕ) (d : X) → n ≡ first + at → at < length xs
    → map (changed_of f n) (enumerate_from first xs) ≡ set xs at (f (get_or xs at d))
numbered_at f n first [] at d is within = absurd (omega arith)
numbered_at f n first (x ∷ xs) zero d is within =
    let same : (first == n) ≡ true = eq-eqb first n (omega arith) in
    (λ i. (if same i then f x else x) ∷ numbered_before f n (first + 1) xs (omega arith) i)
numbered_at f n first (x ∷ xs) (suc at) d is within =
    let apart : (first == n) ≡ false = ne_eqb first n (λ e. omega (arith, e)) in
    (λ i. (if apart i then f x else x) ∷ numbered_at f n (first + 1) xs at d (omega arith) (omega arith) i)

-- Tests of the keys of submissions.
use Rattle.std.proofs.Common.{◌≡◌, ℕ, List, true, false, sym}
use Rattle.std.specs.Prelude.{◌&&◌, ◌==◌, bytes_eq}
use Rattle.std.proofs.lemmas.Bool.{and_parts, and_from, eq-eqb, eqb-true, false_from_ne_true}
use Rattle.std.proofs.lemmas.Slice.Eq.{bytes_eq-Decides}

pub pair_same : (a b : List ℕ) (m n : ℕ) → (bytes_eq a b && m == n) ≡ true → (a ≡ b) × (m ≡ n)
pair_same a b m n is = let both = and_parts _ _ is in ((bytes_eq-Decides a b).0 both.0, eqb-true m n both.1)

pub pair_from : (a b : List ℕ) (m n : ℕ) → a ≡ b → m ≡ n → (bytes_eq a b && m == n) ≡ true
pair_from a b m n p q = and_from _ _ ((bytes_eq-Decides a b).1 p) (eq-eqb m n q)

pub pair_not : (a b : List ℕ) (m n : ℕ) → (bytes_eq a b && m == n) ≡ false → (bytes_eq b a && n == m) ≡ false
pair_not a b m n out = false_from_ne_true _ (λ is. let same = pair_same b a n m is in let back = pair_from a b m n (sym same.0) (sym same.1) in cc)

-- Ranges of sequences: which sequences they hold, and whether they are apart.
use Rattle.std.proofs.Common.{◌≡◌, ℕ, zero, suc, ◌+◌, ◌-◌, ◌<◌, ◌≤◌, ◌⊎◌, List, [], ◌∷◌, Bool, true, false, not, ◌&&◌, ◌||◌, ◌==◌, refl, sym, ap, ◌∙◌, arith, inl, inr, nat_le, if◌then◌else◌}
use Rattle.std.specs.List.{range_with_len, list_any, list_all, AllByRecursion}
use Rattle.std.proofs.lemmas.Bool.{leb-false, cases_Bool}
use Rattle.std.proofs.lemmas.Bool.Decides.{nat_tests}
use Rattle.desk_plan.specs.Batch.{IsEntryCount}
use Rattle.desk_plan.specs.Numbers.{is_in}
use Rattle.desk_plan.specs.Sequences.{first_after, range_after, IsRange, meets, are_apart}
use Rattle.ach_fields.specs.Trace.{most_sequence}

-- tests
pub shuffle : (a b c d : Bool) → ((a && b) && (c && d)) ≡ ((a && c) && (b && d))
shuffle false b c d = refl
shuffle true true c d = refl
shuffle true false true d = refl
shuffle true false false d = refl

regroup : (a m l p : Bool) → (a && ((m && l) && p)) ≡ ((a && l) && (m && p))
regroup false m l p = refl
regroup true true l p = refl
regroup true false true p = refl
regroup true false false p = refl

neither : (a b : Bool) → not (a || b) ≡ (not a && not b)
neither true b = refl
neither false b = refl

pub neither_and : (a b m : Bool) → (not a && (not b && m)) ≡ (not (a || b) && m)
neither_and true b m = refl
neither_and false b m = refl

turned : (a b : Bool) → (a && b) ≡ (b && a)
turned true true = refl
turned true false = refl
turned false true = refl
turned false false = refl

module _ {X : Type 0} where
  all_both : (p q : X → Bool) (xs : List X) → list_all (λ x. p x && q x) xs ≡ (list_all p xs && list_all q xs)
  all_both p q [] = refl
  all_both p q (x ∷ xs) = ap (λ t. (p x && q x) && t) (all_both p q xs) ∙ shuffle (p x) (q x) (list_all p xs) (list_all q xs)

  pub all_true : (xs : List X) → list_all (λ x. true) xs ≡ true
  all_true [] = refl
  all_true (x ∷ xs) = all_true xs

  none_any : (p : X → Bool) (xs : List X) → list_all (λ x. not (p x)) xs ≡ not (list_any p xs)
  none_any p [] = refl
  none_any p (x ∷ xs) = ap (λ t. not (p x) && t) (none_any p xs) ∙ sym (neither (p x) (list_any p xs))

-- the range of a batch
pub cases_range : (last n : ℕ) → ((range_after last n ≡ (last + 1, last + 1 + n - 1)) × (last + n ≤ most_sequence)) ⊎ ((range_after last n ≡ (1, 1 + n - 1)) × (most_sequence < last + n))
cases_range last n =
    elim (cases_Bool (nat_le (last + n) most_sequence)) [
      | inl on ↦ inl (ap (λ (t : Bool). let f = if t then last + 1 else 1 in (f, f + n - 1)) on, grind (arith, nat_tests))
      | inr over ↦ inr (ap (λ (t : Bool). let f = if t then last + 1 else 1 in (f, f + n - 1)) over, leb-false _ _ over)
    ]

pub IsRange-range_after : (last n : ℕ) → IsEntryCount n → IsRange (range_after last n)
IsRange-range_after last n count =
    elim (cases_range last n) [
      | inl on ↦ at (last + 1) (ap (λ (r : ℕ × ℕ). r.0) on.0) (omega arith) (omega arith)
      | inr over ↦ at 1 (ap (λ (r : ℕ × ℕ). r.0) over.0) (omega arith) (omega arith)
    ]
  where
    at : (f : ℕ) → first_after last n ≡ f → 1 ≤ f → f + n ≤ most_sequence + 1 → IsRange (range_after last n)
    at f e some le = let one = count.0 in record { some = omega arith; up = omega arith; within = omega arith }

-- which sequences are among those from a first one on
in_none : (f s : ℕ) → 1 ≤ f → false ≡ (nat_le f s && nat_le s (f + 0 - 1))
in_none f s some = grind (arith, nat_tests)

in_more : (f n s : ℕ) → ((f == s) || (nat_le (f + 1) s && nat_le s (f + 1 + n - 1))) ≡ (nat_le f s && nat_le s (f + suc n - 1))
in_more f n s = grind (arith, nat_tests)

pub among : (f n s : ℕ) → 1 ≤ f → list_any (λ x. x == s) (range_with_len f n) ≡ is_in (f, f + n - 1) s
among f zero s some = in_none f s some
among f (suc n) s some = ap (λ t. (f == s) || t) (among (f + 1) n s (omega arith)) ∙ in_more f n s

one_apart : (f q0 q1 : ℕ) → q0 ≤ q1 → (not (nat_le q0 f && nat_le f q1) && true) ≡ not (nat_le f q1 && nat_le q0 (f + 1 - 1))
one_apart f q0 q1 le = grind (arith, nat_tests)

more_apart : (f n q0 q1 : ℕ) → q0 ≤ q1 → (not (nat_le q0 f && nat_le f q1) && not (nat_le (f + 1) q1 && nat_le q0 (f + 1 + suc n - 1))) ≡ not (nat_le f q1 && nat_le q0 (f + suc (suc n) - 1))
more_apart f n q0 q1 le = grind (arith, nat_tests)

-- none of them is in a range where they don't meet it
out_of : (f n : ℕ) (q : ℕ × ℕ) → 1 ≤ n → q.0 ≤ q.1 → list_all (λ s. not (is_in q s)) (range_with_len f n) ≡ not (meets (f, f + n - 1) q)
out_of f zero q some le = absurd (omega arith)
out_of f (suc zero) q some le = one_apart f q.0 q.1 le
out_of f (suc (suc n)) q some le = ap (λ t. not (is_in q f) && t) (out_of (f + 1) (suc n) q (omega arith) le) ∙ more_apart f n q.0 q.1 le

abbrev pub is_taken : List (ℕ × ℕ) → ℕ → Bool
is_taken taken s = list_any (λ q. is_in q s) taken

pub none_taken : (f n : ℕ) (taken : List (ℕ × ℕ)) → 1 ≤ n → AllByRecursion (λ q. q.0 ≤ q.1) taken → list_all (λ s. not (is_taken taken s)) (range_with_len f n) ≡ not (list_any (meets (f, f + n - 1)) taken)
none_taken f n [] some le = all_true (range_with_len f n)
none_taken f n (q ∷ taken) some le =
    (λ i. list_all (λ s. neither (is_in q s) (is_taken taken s) i) (range_with_len f n))
    ∙ all_both (λ s. not (is_in q s)) (λ s. not (is_taken taken s)) (range_with_len f n)
    ∙ (λ i. out_of f n q some le.0 i && none_taken f n taken some le.1 i)
    ∙ sym (neither (meets (f, f + n - 1) q) (list_any (meets (f, f + n - 1)) taken))

-- whether each of some ranges is apart from those before it
abbrev pub are_clear : List (ℕ × ℕ) → List (ℕ × ℕ) → Bool
are_clear [] taken = true
are_clear (r ∷ rs) taken = not (list_any (meets r) taken) && are_clear rs (r ∷ taken)

meets_turned : (p q : ℕ × ℕ) → meets p q ≡ meets q p
meets_turned p q = turned (nat_le p.0 q.1) (nat_le q.0 p.1)

clear_of_each : (rs taken : List (ℕ × ℕ)) → are_clear rs taken ≡ (list_all (λ r. not (list_any (meets r) taken)) rs && are_apart rs)
clear_of_each [] taken = refl
clear_of_each (r ∷ rs) taken =
    let here : list_all (λ x. not (list_any (meets x) (r ∷ taken))) rs ≡ (not (list_any (meets r) rs) && list_all (λ x. not (list_any (meets x) taken)) rs) =
    (λ i. list_all (λ x. (neither (meets x r) (list_any (meets x) taken) ∙ ap (λ t. not t && not (list_any (meets x) taken)) (meets_turned x r)) i) rs)
    ∙ all_both (λ x. not (meets r x)) (λ x. not (list_any (meets x) taken)) rs
    ∙ ap (λ t. t && list_all (λ x. not (list_any (meets x) taken)) rs) (none_any (meets r) rs) in
    ap (λ t. not (list_any (meets r) taken) && t) (clear_of_each rs (r ∷ taken) ∙ ap (λ t. t && are_apart rs) here)
    ∙ regroup (not (list_any (meets r) taken)) (not (list_any (meets r) rs)) (list_all (λ x. not (list_any (meets x) taken)) rs) (are_apart rs)

pub clear_is_apart : (rs : List (ℕ × ℕ)) → are_clear rs [] ≡ are_apart rs
clear_is_apart rs = clear_of_each rs [] ∙ ap (λ t. t && are_apart rs) (all_true rs)

-- Rows that follow one another, one more at a time, and what each of them is.
use Rattle.std.proofs.Common.{◌≡◌, ◌<◌, ◌+◌, ◌++◌, ◌∷◌, [], ℕ, zero, suc, Bool, true, List, Some, take, length, slice_get, ap, ◌∙◌, refl, arith}
use Rattle.std.specs.List.{enumerate_from, list_all}
use Rattle.std.proofs.lemmas.Bool.{and_from}
use Rattle.std.proofs.lemmas.List.Folds.{list_all-append}
use Rattle.sql_tables.proofs.KeptRows.{numbered_append}
use Rattle.sql_writes.specs.Runs.{is_run}

pub none_left : {X : Type 0} (xs : List X) → length xs ≡ 0 → xs ≡ []
none_left [] none = refl
none_left (x ∷ xs) none = absurd (omega (arith, none))

pub first_taken : {X : Type 0} (n : ℕ) (xs : List X) (x : X) → 0 < n → slice_get xs 0 ≡ Some x → slice_get (take n xs) 0 ≡ Some x
first_taken zero xs x some is = absurd (omega (arith, some))
first_taken (suc n) [] x some is = is
first_taken (suc n) (y ∷ ys) x some is = is

module _ {X : Type 0} (stands_after : X → ℕ → X → Bool) where
  pub run_of_one : (xs : List X) → is_run stands_after (take 1 xs) ≡ true
  run_of_one [] = refl
  run_of_one (x ∷ xs) = refl

  -- one more stands after the first
  pub run_more : (xs : List X) (x first : X) → slice_get xs 0 ≡ Some first → is_run stands_after xs ≡ true → stands_after first (length xs) x ≡ true → is_run stands_after (xs ++ x ∷ []) ≡ true
  run_more [] x first is run next = cc
  run_more (y ∷ ys) x first is run next =
      let test = λ (p : ℕ × X). stands_after y p.0 p.1 in
      let turned : length ys + 1 ≡ suc (length ys) = omega arith in
      let same : Some y ≡ Some first = is in
      ap (list_all test) (numbered_append 1 ys (x ∷ []))
      ∙ list_all-append test (enumerate_from 1 ys) (enumerate_from (length ys + 1) (x ∷ []))
      ∙ and_from _ _ run (and_from _ _ (ap (λ n. stands_after y n x) turned ∙ ap (λ z. stands_after z (suc (length ys)) x) (one_value y first same) ∙ next) refl)
    where
      one_value : (a b : X) → Some a ≡ Some b → a ≡ b
      one_value a b e = cc

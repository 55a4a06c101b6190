-- Lists in runs.
use Rattle.std.proofs.Common.{◌≡◌, ◌≤◌, ℕ, List, [], ◌∷◌, ◌++◌, length, take, drop, refl, sym, ap, subst, ◌∙◌, append_assoc, append-nil, sum}
use Rattle.std.proofs.lemmas.List.{drop-drop, drop_all, take-append-drop}
use Rattle.std.proofs.lemmas.List.Sums.{sum_by-cons}
use Rattle.std.proofs.Math.Nat.{le_refl}
use Rattle.desk_plan.specs.Runs.{flat, in_runs}

-- the runs of a list are the list where their sizes sum to its length
pub flat-in_runs : {A : Type 0} (sizes : List ℕ) (xs : List A) → sum sizes ≡ length xs → flat (in_runs sizes xs) ≡ xs
flat-in_runs {A} sizes xs e = sym (append-nil (flat (in_runs sizes xs))) ∙ ap (λ (l : List A). flat (in_runs sizes xs) ++ l) (sym none) ∙ with_rest sizes xs
  where
    with_rest : (sizes : List ℕ) (xs : List A) → flat (in_runs sizes xs) ++ drop (sum sizes) xs ≡ xs
    with_rest [] xs = refl
    with_rest (n ∷ sizes) xs =
        append_assoc (take n xs) (flat (in_runs sizes (drop n xs))) (drop (sum (n ∷ sizes)) xs)
        ∙ ap (λ m. take n xs ++ (flat (in_runs sizes (drop n xs)) ++ drop m xs)) (sum_by-cons (λ m. m) n sizes)
        ∙ ap (λ (l : List A). take n xs ++ (flat (in_runs sizes (drop n xs)) ++ l)) (sym (drop-drop (sum sizes) n xs))
        ∙ ap (λ (l : List A). take n xs ++ l) (with_rest sizes (drop n xs))
        ∙ take-append-drop n xs

    none : drop (sum sizes) xs ≡ []
    none = drop_all (sum sizes) xs (subst (λ m. length xs ≤ m) (sym e) (le_refl (length xs)))

-- The sizes of the files of a cut.
use Rattle.std.proofs.Common.{◌≡◌, ℕ, ◌≤◌, List, [], ◌∷◌, ◌++◌, length, map, Bool, true, refl, sym, ap, subst, ◌∙◌, arith, inl, inr, take_at, drop_at, All, sum, if◌then◌else◌}
use Rattle.std.specs.List.{AllByRecursion}
use Rattle.std.proofs.lemmas.Bool.{leb-true, and_parts, cases_Bool}
use Rattle.std.proofs.lemmas.List.Concat.{length-flat_map}
use Rattle.std.proofs.lemmas.List.Elements.{All-from_recursion}
use Rattle.std.proofs.lemmas.List.Sums.{sum-map}
use Rattle.desk_plan.specs.declared.batch.Batch.{Batch}
use Rattle.desk_plan.specs.Files.{fits, Divides, IsSize, runs_from, division}
use Rattle.desk_plan.specs.Runs.{flat, in_runs}
use Rattle.desk_plan.proofs.Divisions.{division-whole, only_division}

-- the runs of a list by their sizes
in_runs-flat : (runs : List (List Batch)) → in_runs (map length runs) (flat runs) ≡ runs
in_runs-flat [] = refl
in_runs-flat (run ∷ runs) = λ i. take_at run (flat runs) (length run) refl i ∷ (ap (in_runs (map length runs)) (drop_at run (flat runs) (length run) refl) ∙ in_runs-flat runs) i

pub in_runs-division : (batches : List Batch) → in_runs (map length (division batches)) batches ≡ division batches
in_runs-division batches = ap (in_runs (map length (division batches))) (sym (division-whole batches)) ∙ in_runs-flat (division batches)

fits-short : (run : List Batch) → fits run ≡ true → length run ≤ 1000
fits-short run fit = leb-true (length run) 1000 (and_parts _ _ (and_parts _ _ fit).0).1

runs_from-sizes : (b : Batch) (run batches : List Batch) → length (b ∷ run) ≤ 1000 → AllByRecursion IsSize (map length (runs_from (b ∷ run) batches))
runs_from-sizes b run [] short = ((omega arith, short), tt)
runs_from-sizes b run (x ∷ batches) short =
    let goal : Bool → Type 0 = λ t. AllByRecursion IsSize (map length (if t then runs_from (b ∷ (run ++ x ∷ [])) batches else (b ∷ run) ∷ runs_from (x ∷ []) batches)) in
    elim (cases_Bool (fits (b ∷ (run ++ x ∷ [])))) [
      | inl more ↦ subst goal (sym more) (runs_from-sizes b (run ++ x ∷ []) batches (fits-short (b ∷ (run ++ x ∷ [])) more))
      | inr full ↦ subst goal (sym full) ((omega arith, short), runs_from-sizes x [] batches (omega arith))
    ]

division-sizes : (batches : List Batch) → AllByRecursion IsSize (map length (division batches))
division-sizes [] = tt
division-sizes (b ∷ batches) = runs_from-sizes b [] batches (omega arith)

-- what is known of these sizes
module _ (batches : List Batch) (sizes : List ℕ) (are : sizes ≡ map length (division batches)) where
  pub sizes_only : (runs : List (List Batch)) → Divides runs batches → sizes ≡ map length runs
  sizes_only runs d = are ∙ ap (λ (r : List (List Batch)). map length r) (sym (only_division batches runs d))

  pub sizes_whole : sum sizes ≡ length batches
  sizes_whole = ap sum are ∙ sum-map length (division batches) ∙ sym (length-flat_map (λ (run : List Batch). run) (division batches)) ∙ ap length (division-whole batches)

  pub sizes_within : All IsSize sizes
  sizes_within = subst (All IsSize) (sym are) (All-from_recursion IsSize (map length (division batches)) (division-sizes batches))

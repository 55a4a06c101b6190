-- The batches of submissions fit files of their own.
use Rattle.std.proofs.Common.{◌≡◌, ℕ, ◌≤◌, List, [], ◌∷◌, true, arith, All, sum_by}
use Rattle.std.specs.List.{AllByRecursion}
use Rattle.std.proofs.lemmas.Bool.{le-leb, and_from}
use Rattle.std.proofs.lemmas.List.Elements.{recursion_from_All}
use Rattle.desk_plan.specs.declared.batch.Batch.{Batch}
use Rattle.desk_plan.specs.Batch.{IsBatch}
use Rattle.desk_plan.specs.Files.{fits}
use Rattle.desk_plan.proofs.Divisions.{EachFits}

one_within : (f : Batch → ℕ) (b : Batch) (most : ℕ) → f b ≤ most → sum_by f (b ∷ []) ≤ most
one_within f b most le = omega arith

fits_alone : (b : Batch) → IsBatch b → fits (b ∷ []) ≡ true
fits_alone b h =
    and_from _ _ (and_from _ _ (and_from _ _ (le-leb _ _ (one_within (λ b. b.debits) b _ h.debits)) (le-leb _ _ (one_within (λ b. b.credits) b _ h.credits))) (le-leb 1 1000 (omega arith)))
    (le-leb _ _ (let r = h.records in one_within (λ b. b.records) b 100_000 (omega arith)))

each_alone : (batches : List Batch) → AllByRecursion IsBatch batches → EachFits batches
each_alone [] h = tt
each_alone (b ∷ batches) h = (fits_alone b h.0, each_alone batches h.1)

pub submissions_fit : (batches : List Batch) → All IsBatch batches → EachFits batches
submissions_fit batches h = each_alone batches (recursion_from_All IsBatch batches h)

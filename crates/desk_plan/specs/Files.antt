-- Batches in files.
use Rattle.std.specs.Prelude.{◌≡◌, ◌≢◌, ℕ, ◌≤◌, Bool, true, false, ◌&&◌, nat_le, if◌then◌else◌, List, [], ◌∷◌, ◌++◌, length, map, take, sum_by, All}
use Rattle.std.specs.List.{AllAdjacentBelow}
use Rattle.ach_fields.specs.Cents.{most_cents}
use Rattle.desk_plan.specs.declared.batch.Batch.{Batch}
use Rattle.desk_plan.specs.Runs.{flat}

-- how many batches, and how many records 6 and 7, a file may hold
abbrev pub most_batches : ℕ
most_batches = 1000

abbrev pub most_records : ℕ
most_records = 100_000

-- how many batches a file has
abbrev pub IsSize : ℕ → Type 0
IsSize n = (1 ≤ n) × (n ≤ most_batches)

-- whether one file may hold these batches
abbrev pub fits : List Batch → Bool
fits run =
    nat_le (sum_by (λ b. b.debits) run) most_cents && nat_le (sum_by (λ b. b.credits) run) most_cents
    && nat_le (length run) most_batches && nat_le (sum_by (λ b. b.records) run) most_records

-- The runs are a division of the batches into files: together they are the batches, each has a batch
-- and fits a file, and none could take the first batch of the next.
pub record Divides (runs : List (List Batch)) (batches : List Batch) : Type 0 where
  pub whole : flat runs ≡ batches
  pub some : All (λ run. run ≢ []) runs
  pub fit : All (λ run. fits run ≡ true) runs
  pub full : AllAdjacentBelow (λ run next. fits (run ++ take 1 next) ≡ false) runs (length runs)

-- the sizes of the runs of each division of batches
abbrev pub AreSizesOf : List Batch → List ℕ → Type 0
AreSizesOf batches sizes = (runs : List (List Batch)) → Divides runs batches → sizes ≡ map length runs

-- the runs of batches after a run that was begun: it takes the next batch where it can
abbrev pub runs_from : List Batch → List Batch → List (List Batch)
runs_from run [] = run ∷ []
runs_from run (b ∷ batches) = if fits (run ++ b ∷ []) then runs_from (run ++ b ∷ []) batches else run ∷ runs_from (b ∷ []) batches

-- the division of batches into files
abbrev pub division : List Batch → List (List Batch)
division [] = []
division (b ∷ batches) = runs_from (b ∷ []) batches

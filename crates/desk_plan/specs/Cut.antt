-- Cuts, and whether one is refused.
use Rattle.std.specs.Prelude.{ℕ, ◌+◌, Bool, ◌&&◌, nat_le, List, length, sum_by}
use Rattle.desk_plan.specs.declared.batch.Batch.{Batch}
use Rattle.desk_plan.specs.Files.{division}
use Rattle.desk_plan.specs.Modifiers.{most_files}
use Rattle.desk_plan.specs.Reuse.{may_send}
use Rattle.desk_plan.specs.Sequences.{SentSequence}

-- how many files some cuts make
abbrev pub files_of : List (List Batch) → ℕ
files_of cuts = sum_by (λ batches. length (division batches)) cuts

-- whether a cut may send batches on a day, after this many files of that day and after the sent entries
abbrev pub may_cut : (day : ℕ) → (before : ℕ) → List SentSequence → List Batch → Bool
may_cut day before sent batches = may_send day sent batches && nat_le (before + length (division batches)) most_files

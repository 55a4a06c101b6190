use Rattle.std.proofs.Common.{◌≡◌, ◌+◌, ◌++◌, map, drop, length}
use Rattle.std.specs.Prelude.{sum}
use Rattle.desk_plan.specs.Runs.{in_runs}
use Rattle.desk_history.specs.Files.{files_from}
use Rattle.desk_cut.specs.Sent.{batch_in, file_in}
use Rattle.desk_cut.proofs.files.files_of.Given as goal

-- the files so far, and those of the sizes and the batches that are left
abbrev pub invariant-loop-index : goal.invariant-loop-index
invariant-loop-index l = record {
  files :
      map file_in l.files.items ++ files_from l.day (l.made + l.index) (in_runs (drop l.index l.sizes) (map batch_in (drop l.from l.batches)))
      ≡ files_from l.day l.made (in_runs l.sizes (map batch_in l.batches));
  rest : l.from + sum (drop l.index l.sizes) ≡ length l.batches;
}

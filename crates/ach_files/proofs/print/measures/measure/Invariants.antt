use Rattle.std.proofs.Common.{◌≡◌, take, drop, ◌&&◌, ◌||◌}
use Rattle.std.specs.List.{list_all, list_any}
use Rattle.ach_files.specs.Outgoing.{batch_fits, is_long_batch, file_sums, capped_sums}
use Rattle.ach_files.proofs.print.measures.measure.Given as goal

-- what was found so far, with what is left
abbrev pub invariant-loop-batch : goal.invariant-loop-batch
invariant-loop-batch l = record {
  fit : (l.all.fit && list_all batch_fits (drop l.batch-index l.batches)) ≡ list_all batch_fits l.batches;
  long : (l.all.is_any_long || list_any is_long_batch (drop l.batch-index l.batches)) ≡ list_any is_long_batch l.batches;
  sums : l.all.sums ≡ capped_sums (file_sums (take l.batch-index l.batches));
}

use Rattle.std.proofs.Common.{◌≡◌, ◌++◌, map, drop}
use Rattle.std.specs.List.{flat_map}
use Rattle.desk_history.specs.Sendings.{batch_entries}
use Rattle.desk_cut.specs.Sent.{batch_in}
use Rattle.desk_cut.proofs.batches.entries_of.Given as goal

abbrev pub invariant-loop-batch : goal.invariant-loop-batch
invariant-loop-batch l = l.entries.items ++ flat_map batch_entries (map batch_in (drop l.batch-index l.batches)) ≡ flat_map batch_entries (map batch_in l.batches)

use Rattle.std.proofs.Common.{take}
use Rattle.std.specs.List.{flat_map}
use Rattle.ach_files.specs.Outgoing.{Puts, batch_rows}
use Rattle.ach_files.proofs.print.page.put_batches.Given as goal

abbrev pub invariant-loop-batch : goal.invariant-loop-batch
invariant-loop-batch l = Puts l.fn.out.items l.out.items (flat_map batch_rows (take l.batch-index l.batches))

use Rattle.std.proofs.Common.{◌≡◌, take}
use Rattle.ach_files.specs.Outgoing.{batch_sums, capped_sums}
use Rattle.ach_files.proofs.print.totals.sums_of_entries.Given as goal

abbrev pub invariant-loop-entry : goal.invariant-loop-entry
invariant-loop-entry l = l.sums ≡ capped_sums (batch_sums (take l.entry-index l.entries))

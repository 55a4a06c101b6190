use Rattle.std.proofs.Common.{◌≡◌, take, map, All}
use Rattle.desk_plan.specs.Batch.{IsEntryCount}
use Rattle.desk_cut.proofs.loads.counts_of.Given as goal

abbrev pub invariant-loop-load : goal.invariant-loop-load
invariant-loop-load l = record {
  value : l.counts.items ≡ map (λ b. b.entries) (take l.load-index l.loads);
  counts : All IsEntryCount l.counts.items;
}

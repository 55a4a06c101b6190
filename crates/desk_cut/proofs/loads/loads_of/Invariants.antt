use Rattle.std.proofs.Common.{◌≡◌, take, map, All}
use Rattle.desk_plan.specs.Batch.{IsBatch}
use Rattle.desk_history.specs.Sendings.{plan_of}
use Rattle.desk_cut.specs.Sent.{due_in}
use Rattle.desk_cut.proofs.loads.loads_of.Given as goal

abbrev pub invariant-loop-due : goal.invariant-loop-due
invariant-loop-due l = record {
  value : l.loads.items ≡ map plan_of (map due_in (take l.due-index l.sent));
  batches : All IsBatch l.loads.items;
}

use Rattle.std.proofs.Common.{◌≡◌, ◌≤◌, ◌*◌, ◌^◌, take}
use Rattle.std.specs.Prelude.{sum_by}
use Rattle.desk_cut.proofs.waiting.due_records.Given as goal

abbrev pub invariant-loop-load : goal.invariant-loop-load
invariant-loop-load l = record {
  value : l.records ≡ sum_by (λ b. b.records) (take l.load-index l.loads);
  within : l.records ≤ 2 ^ 32 * l.load-index;
}

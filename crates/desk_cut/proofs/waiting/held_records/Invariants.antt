use Rattle.std.proofs.Common.{◌≡◌, ◌≤◌, ◌*◌, sum_by, take}
use Rattle.desk_cut.proofs.waiting.held_records.Given as goal

abbrev pub invariant-loop-one : goal.invariant-loop-one
invariant-loop-one l = record {
  value : l.records ≡ sum_by (λ z. z.records) (take l.one-index l.sizes);
  within : l.records ≤ 4294967295 * l.one-index;
}

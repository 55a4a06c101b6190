use Rattle.std.proofs.Common.{◌≡◌, ◌≤◌, ◌*◌, take}
use Rattle.desk_rules.specs.Exposure.{credit_exposure}
use Rattle.desk_rules.proofs.rules.exposure.credit_exposure.Given as goal

abbrev pub invariant-loop-fact : goal.invariant-loop-fact
invariant-loop-fact l = record {
  so_far : l.exposed ≡ credit_exposure (take l.fact-index l.facts) l.day;
  within : l.exposed ≤ 999_999_999_999 * l.fact-index;
}

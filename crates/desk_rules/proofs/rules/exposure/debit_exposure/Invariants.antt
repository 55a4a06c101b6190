use Rattle.std.proofs.Common.{◌≡◌, ◌≤◌, ◌*◌, take}
use Rattle.desk_rules.specs.Exposure.{debit_exposure}
use Rattle.desk_rules.proofs.rules.exposure.debit_exposure.Given as goal

abbrev pub invariant-loop-fact : goal.invariant-loop-fact
invariant-loop-fact l = record {
  so_far : l.exposed ≡ debit_exposure (take l.fact-index l.facts) l.day l.calendar;
  within : l.exposed ≤ 999_999_999_999 * l.fact-index;
}

use Rattle.std.proofs.Common.{◌≡◌, ◌++◌, ◌∷◌, drop, false}
use Rattle.desk_plan.specs.Sequences.{ranges}
use Rattle.desk_plan.proofs.Restarts.{stays_apart}
use Rattle.desk_plan.proofs.numbers.plan_numbers.Given as goal

-- the ranges so far and those of the rest are all ranges, and these are apart where the rest stays so
abbrev pub invariant-loop-count : goal.invariant-loop-count
invariant-loop-count l = record {
  made : l.ranges.items ++ ranges l.last (drop l.count-index l.rest) ≡ (l.start, l.initial.last) ∷ ranges l.initial.last l.rest;
  apart : stays_apart l.start l.restarted l.last (drop l.count-index l.rest) ≡ stays_apart l.start false l.initial.last l.rest;
}

use Rattle.std.proofs.Common.{◌≡◌, take}
use Rattle.desk_plan.specs.Modifiers.{modifiers}
use Rattle.desk_calls.proofs.operator.status.first_modifiers.Given as goal

abbrev pub invariant-loop-before : goal.invariant-loop-before
invariant-loop-before l = l.found.items ≡ take l.before modifiers

use Rattle.std.proofs.Common.{◌≡◌, ◌≤◌, ◌++◌, length, drop}
use Rattle.ach_fields.specs.Digits.{digits}
use Rattle.ach_fields.proofs.number.put_digits.Given as goal

abbrev pub invariant-loop-at : goal.invariant-loop-at
invariant-loop-at l = record {
  written : digits l.at l.rest ++ drop l.at l.field ≡ digits (length l.fn.field) l.number;
  within : l.at ≤ length l.field;
}

abbrev pub decreases-loop-at : goal.decreases-loop-at
decreases-loop-at l = l.at

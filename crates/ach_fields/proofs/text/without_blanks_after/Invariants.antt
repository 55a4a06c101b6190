use Rattle.std.proofs.Common.{◌≡◌, ◌≤◌, length, take}
use Rattle.ach_fields.specs.Text.{without_blanks_after}
use Rattle.ach_fields.proofs.text.without_blanks_after.Given as goal

abbrev pub invariant-loop-len : goal.invariant-loop-len
invariant-loop-len l = record {
  same : without_blanks_after (take l.len l.text) ≡ without_blanks_after l.text;
  within : l.len ≤ length l.text;
}

abbrev pub decreases-loop-len : goal.decreases-loop-len
decreases-loop-len l = l.len

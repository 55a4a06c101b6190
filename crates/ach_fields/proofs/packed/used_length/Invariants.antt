use Rattle.std.proofs.Common.{◌≡◌, ◌≤◌, ◌+◌, ◌-◌, length, drop}
use Rattle.std.specs.List.{prefix_len}
use Rattle.ach_fields.specs.Padding.{is_used}
use Rattle.ach_fields.proofs.packed.used_length.Given as goal

abbrev pub invariant-loop-len : goal.invariant-loop-len
invariant-loop-len l = record {
  same : prefix_len is_used l.bytes ≡ l.len + prefix_len is_used (drop l.len l.bytes);
  within : l.len ≤ length l.bytes;
}

abbrev pub decreases-loop-len : goal.decreases-loop-len
decreases-loop-len l = length l.bytes - l.len

use Rattle.std.proofs.Common.{◌≡◌, ◌≤◌, ◌*◌, take}
use Rattle.desk_rules.specs.Size.{total_of}
use Rattle.desk_rules.proofs.rules.size.total.Given as goal

abbrev pub invariant-loop-entry : goal.invariant-loop-entry
invariant-loop-entry l = (l.sum ≡ total_of (take l.entry-index l.entries)) × (l.sum ≤ 999_999_999_999 * l.entry-index)

use Rattle.std.proofs.Common.{◌≡◌, ◌++◌, map, zip}
use Rattle.desk_intake.specs.Resolutions.{found_item_as}
use Rattle.desk_intake.proofs.named_entries.found_beside.Given as goal

-- the items so far, and those that are left
abbrev pub invariant-loop-item : goal.invariant-loop-item
invariant-loop-item l = map found_item_as l.found.items ++ zip l.item-iterator.a.rest.now l.item-iterator.b.rest.now ≡ zip l.items l.named

use Rattle.std.proofs.Common.{◌≡◌, take}
use Rattle.std.specs.Prelude.{sum_by}
use Rattle.remembering_store.specs.DaySums.{cents_if}
use Rattle.remembering_store.specs.OpenSums.{from_day}
use Rattle.remembering_store.proofs.sums.day_sums.DaySums.from.Given as goal

abbrev pub invariant-loop-item : goal.invariant-loop-item
invariant-loop-item l = l.sum ≡ sum_by (cents_if (from_day l.day)) (take l.item-index l.item-items)

use Rattle.std.proofs.Common.{◌≡◌, take}
use Rattle.std.specs.Prelude.{sum}
use Rattle.remembering_store.proofs.sums.open_row.OpenRow.counted.Given as goal

abbrev pub invariant-loop-cents : goal.invariant-loop-cents
invariant-loop-cents l = l.sum ≡ sum (take l.cents-index l.cents-items)

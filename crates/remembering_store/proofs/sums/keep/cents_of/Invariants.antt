use Rattle.std.proofs.Common.{◌≡◌, map, take}
use Rattle.remembering_store.proofs.sums.keep.cents_of.Given as goal

abbrev pub invariant-loop-entry : goal.invariant-loop-entry
invariant-loop-entry l = l.cents.items ≡ map (λ e. e.cents) (take l.entry-index l.entries)

use Rattle.std.proofs.Common.{◌≡◌, take}
use Rattle.std.specs.BTreeSet.{contains}
use Rattle.std.specs.Ordering.{nat_cmp}
use Rattle.std.specs.Prelude.{filter, not}
use Rattle.remembering_store.proofs.held.held_of.HeldOf.still_held.Given as goal

abbrev pub invariant-loop-size : goal.invariant-loop-size
invariant-loop-size l = l.held.items ≡ filter (λ z. not (contains nat_cmp l.self.decided z.order)) (take l.size-index l.self.sizes.items)

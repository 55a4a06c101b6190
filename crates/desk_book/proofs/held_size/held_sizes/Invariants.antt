use Rattle.std.proofs.Common.{◌≡◌, take, map}
use Rattle.desk_book.specs.HeldSizes.{held_size}
use Rattle.desk_book.proofs.held_size.held_sizes.Given as goal

abbrev pub invariant-loop-one : goal.invariant-loop-one
invariant-loop-one l = l.sizes.items ≡ map held_size (take l.one-index l.held)

use Rattle.std.proofs.Common.{◌≡◌, ◌++◌, map}
use Rattle.std.specs.Vec.Iter.{into_iter_items}
use Rattle.desk_cut.proofs.waiting.statuses_of.Given as goal

-- the statuses so far, and those of the companies that are left
abbrev pub invariant-loop-one : goal.invariant-loop-one
invariant-loop-one l = l.statuses.items ++ map (λ w. w.status) (into_iter_items l.one-iterator) ≡ map (λ w. w.status) l.fn.all.items

use Rattle.std.proofs.Common.{◌≡◌, length}
use Rattle.std.specs.List.{AllByRecursion}
use Rattle.sql_setup.proofs.same.are_same.Given as goal

abbrev pub invariant-loop-left : goal.invariant-loop-left
invariant-loop-left g l =
    (l.left ≡ l.right → l.these ≡ l.others)
    × (l.these ≡ l.others → l.left ≡ l.right)
    × (AllByRecursion g.T.Same.is_plain l.these → AllByRecursion g.T.Same.is_plain l.left)

abbrev pub decreases-loop-left : goal.decreases-loop-left
decreases-loop-left g l = length l.left

use Rattle.std.proofs.Common.{◌≡◌, take, map}
use Rattle.sql_reads.proofs.balances.pairs_of.Given as goal

abbrev pub invariant-loop-sum : goal.invariant-loop-sum
invariant-loop-sum l = l.pairs.items ≡ map (λ s. (s.day, s.cents)) (take l.sum-index l.sums)

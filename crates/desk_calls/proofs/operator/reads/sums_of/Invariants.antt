use Rattle.std.proofs.Common.{◌≡◌, map, take}
use Rattle.desk_history.specs.Postings.{day_sum}
use Rattle.desk_calls.proofs.operator.reads.sums_of.Given as goal

abbrev pub invariant-loop-row : goal.invariant-loop-row
invariant-loop-row l = l.sums.items ≡ map day_sum (take l.row-index l.rows)

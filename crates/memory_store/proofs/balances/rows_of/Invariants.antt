use Rattle.std.proofs.Common.{◌≡◌, ◌++◌, vec_items}
use Rattle.memory_store.proofs.balances.rows_of.Given as goal

abbrev pub invariant-loop-day : goal.invariant-loop-day
invariant-loop-day l = vec_items l.rows ++ l.day-iterator ≡ l.sums.entries

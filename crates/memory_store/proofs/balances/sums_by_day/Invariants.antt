use Rattle.std.proofs.Common.{◌≡◌, ◌-◌, drop, length}
use Rattle.desk_accounts.specs.Balance.{day_sums}
use Rattle.memory_store.proofs.balances.sums_by_day.Given as goal

abbrev pub invariant-loop-done : goal.invariant-loop-done
invariant-loop-done l = l.sums.entries ≡ day_sums l.account (drop (length l.postings - l.done) l.postings)

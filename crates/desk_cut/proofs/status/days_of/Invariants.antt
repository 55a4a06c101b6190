use Rattle.std.proofs.Common.{◌≡◌, ◌-◌, drop, length}
use Rattle.desk_cut.specs.Sizes.{settlement_days}
use Rattle.desk_cut.proofs.status.days_of.Given as goal

abbrev pub invariant-loop-done : goal.invariant-loop-done
invariant-loop-done l = l.days.keys ≡ settlement_days (drop (length l.sent - l.done) l.sent)

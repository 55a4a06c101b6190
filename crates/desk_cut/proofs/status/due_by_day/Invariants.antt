use Rattle.std.proofs.Common.{◌≡◌, ◌++◌, map}
use Rattle.desk_cut.specs.Sizes.{due_day, due_days}
use Rattle.desk_cut.proofs.status.due_by_day.Given as goal

-- what is due on the days so far, and on those that are left
abbrev pub invariant-loop-day : goal.invariant-loop-day
invariant-loop-day l = l.due.items ++ map (due_day l.sent) l.day-iterator ≡ due_days l.sent

use Rattle.std.proofs.Common.{◌+◌, ◌-◌, max}
use Rattle.bank_days.proofs.BankingDays.{Seeks}
use Rattle.bank_days.proofs.calendar.Calendar.following.Given as goal

abbrev pub invariant-loop-next : goal.invariant-loop-next
invariant-loop-next l = Seeks l.self l.fn.day (max l.fn.day 47_662) l.next

abbrev pub decreases-loop-next : goal.decreases-loop-next
decreases-loop-next l = max l.fn.day 47_662 + 4 - l.next

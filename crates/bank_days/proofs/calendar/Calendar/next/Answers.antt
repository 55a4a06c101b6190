use Rattle.std.proofs.Common.{arith, sym}
use Rattle.bank_days.proofs.BankingDays.{nth_is}
use Rattle.bank_days.proofs.calendar.Calendar.next.Goals as goal

pub returns-clause-value : goal.returns-clause-value
returns-clause-value c = sym (nth_is _ _ 1 _ c.following.ensures.next (omega (arith, c.following.ensures.soon)))

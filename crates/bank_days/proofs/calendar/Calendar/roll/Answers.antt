use Rattle.std.proofs.Common.{sym, ◌∙◌}
use Rattle.bank_days.proofs.BankingDays.{first_next}
use Rattle.bank_days.proofs.calendar.Calendar.roll.Goals as goal

pub returns-else-is_banking-clause-first : goal.returns-else-is_banking-clause-first
returns-else-is_banking-clause-first c =
    first_next c.args.self.now c.args.day c.next.result c.next.ensures.counted (sym c.is_banking.ensures ∙ c.if-is_banking.false)

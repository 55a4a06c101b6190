use Rattle.std.proofs.Common.{ap}
use Rattle.desk_rules.specs.LimitChecks.{is_debit}
use Rattle.sql_read_steps.proofs.InTurn.{learnt, learned}
use Rattle.sql_measures.proofs.RowFacts.{no_credit, no_debit}
use Rattle.sql_measures.proofs.open_cents.OpenCentsItemRead.read_item.Goals as goal
use Rattle.std.proofs.Common.{sym}

pub returns-in_ok-cents-in-Credit : goal.returns-in_ok-cents-in-Credit
returns-in_ok-cents-in-Credit g c =
    let of = ap is_debit c.in-Credit.is in
    learned (learnt c.credit_of.ensures c.in_ok-cents-in-Credit.was)
    (λ t are. let credit = are of in let none = sym (no_debit t c.args.head.now c.args.self.now.today c.args.self.now.calendar.now of) in λ i. (credit i, none i))

pub returns-in_ok-cents-in-Debit : goal.returns-in_ok-cents-in-Debit
returns-in_ok-cents-in-Debit g c =
    let of = ap is_debit c.in-Debit.is in
    learned (learnt c.debit_of.ensures c.in_ok-cents-in-Debit.was)
    (λ t are. let debit = are of in let none = sym (no_credit t c.args.head.now c.args.self.now.today of) in λ i. (none i, debit i))

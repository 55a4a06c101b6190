use Rattle.sql_read_steps.proofs.InTurn.{query, learnt, told_then, learned}
use Rattle.sql_measures.proofs.RowFacts.{debit_open}
use Rattle.sql_measures.proofs.open_cents.open_debit_of.Goals as goal

pub returns-in_ok-cents : goal.returns-in_ok-cents
returns-in_ok-cents g c =
    learned (told_then (learnt c.is_whole.ensures c.in_ok-whole.was) (query (rw c.in_ok-cents.ensures at c.cents_of.ensures.answer) c.cents_of.ensures.stays c.cents_of.ensures.survives).so)
    (λ t told debit counts. debit_open t c.args.head.now c.args.today c.args.calendar.now c.in_ok-cents.cents told.1 (told.0 c.if-whole.true) debit counts)

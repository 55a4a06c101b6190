use Rattle.desk_cut.proofs.Sums.{one_more}
use Rattle.desk_cut.proofs.status.put.Goals as goal

pub returns-in-Credit-clause-within : goal.returns-in-Credit-clause-within
returns-in-Credit-clause-within c = λ n within. record { credits = c.counted.ensures.within n within.credits; debits = one_more n c.args.sums.debits within.debits }

pub returns-in-Debit-clause-within : goal.returns-in-Debit-clause-within
returns-in-Debit-clause-within c = λ n within. record { credits = one_more n c.args.sums.credits within.credits; debits = c.counted-in-Debit.ensures.within n within.debits }

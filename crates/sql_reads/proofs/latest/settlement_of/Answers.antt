use Rattle.sql_read_steps.proofs.InTurn.{learnt, learned}
use Rattle.sql_reads.proofs.latest.settlement_of.Goals as goal

-- nothing is known before
pub returns : goal.returns
returns g c = learned (learnt c.settled_with.ensures c.in_ok-day.was) (λ t known. (known tt).0)

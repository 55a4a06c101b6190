use Rattle.sql_read_steps.proofs.InTurn.{asked}
use Rattle.sql_reads.proofs.held.HeldByCompanyItemRead.read_item.Goals as goal

pub returns : goal.returns
returns g c = asked c.waiting_of.ensures

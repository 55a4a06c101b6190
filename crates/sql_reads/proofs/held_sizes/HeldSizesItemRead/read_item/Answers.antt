use Rattle.sql_read_steps.proofs.InTurn.{asked}
use Rattle.sql_reads.proofs.held_sizes.HeldSizesItemRead.read_item.Goals as goal

pub returns : goal.returns
returns g c = asked c.size.ensures

use Rattle.sql_write_laws.proofs.cut.cut_follows.Goals as goal
use Rattle.sql_write_laws.proofs.CutMade.{cut_made}

pub returns : goal.returns
returns c = cut_made

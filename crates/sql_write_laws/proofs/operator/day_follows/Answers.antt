use Rattle.sql_write_laws.proofs.operator.day_follows.Goals as goal
use Rattle.sql_write_laws.proofs.Desk.{day_made}

pub returns : goal.returns
returns c = day_made

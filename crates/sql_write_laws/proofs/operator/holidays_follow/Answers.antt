use Rattle.sql_write_laws.proofs.operator.holidays_follow.Goals as goal
use Rattle.sql_write_laws.proofs.Desk.{holidays_made}

pub returns : goal.returns
returns c = holidays_made

use Rattle.sql_write_laws.proofs.operator.limits_follow.Goals as goal
use Rattle.sql_write_laws.proofs.Desk.{limits_made}

pub returns : goal.returns
returns c = limits_made

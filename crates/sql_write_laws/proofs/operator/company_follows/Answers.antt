use Rattle.sql_write_laws.proofs.operator.company_follows.Goals as goal
use Rattle.sql_write_laws.proofs.Desk.{company_made}

pub returns : goal.returns
returns c = company_made

use Rattle.sql_write_laws.proofs.intake.intake_follows.Goals as goal
use Rattle.sql_write_laws.proofs.IntakeMade.{intake_made}

pub returns : goal.returns
returns c = intake_made

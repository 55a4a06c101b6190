use Rattle.desk_history.proofs.Unauthorized.{authorizations_left_out}
use Rattle.desk_history.proofs.accepted_laws.authorizations_left_out.Goals as goal

pub returns : goal.returns
returns c = authorizations_left_out

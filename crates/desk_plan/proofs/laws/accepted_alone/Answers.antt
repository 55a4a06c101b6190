use Rattle.desk_plan.proofs.Alone.{accepted_alone}
use Rattle.desk_plan.proofs.laws.accepted_alone.Goals as goal

pub returns : goal.returns
returns c = accepted_alone

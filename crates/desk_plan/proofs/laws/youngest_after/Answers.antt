use Rattle.desk_plan.proofs.Sending.{youngest_after}
use Rattle.desk_plan.proofs.laws.youngest_after.Goals as goal

pub returns : goal.returns
returns c = youngest_after

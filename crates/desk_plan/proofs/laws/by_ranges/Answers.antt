use Rattle.desk_plan.proofs.Sending.{by_ranges}
use Rattle.desk_plan.proofs.laws.by_ranges.Goals as goal

pub returns : goal.returns
returns c = by_ranges

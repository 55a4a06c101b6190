use Rattle.desk_plan.proofs.Rows.{latest_in_rows}
use Rattle.desk_plan.proofs.laws.latest_in_rows.Goals as goal

pub returns : goal.returns
returns c = latest_in_rows

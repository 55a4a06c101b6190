use Rattle.isolated_runs.proofs.Runs.{runs_are_right}
use Rattle.isolated_runs.proofs.laws.runs_are_right.Goals as goal

pub returns : goal.returns
returns g c = runs_are_right c.reply_of_part.ensures

use Rattle.isolated_runs.proofs.Runs.{runs_of_desks}
use Rattle.isolated_runs.proofs.laws.runs_of_desks.Goals as goal

pub returns : goal.returns
returns c = runs_of_desks c.reply_of_part.ensures

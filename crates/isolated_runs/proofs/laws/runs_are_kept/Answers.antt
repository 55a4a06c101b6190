use Rattle.isolated_runs.proofs.Kept.{kept_runs}
use Rattle.isolated_runs.proofs.laws.runs_are_kept.Goals as goal

pub returns : goal.returns
returns g c = kept_runs g.S.Store

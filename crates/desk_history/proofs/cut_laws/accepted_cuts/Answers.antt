use Rattle.desk_history.proofs.cut_laws.accepted_cuts.Goals as goal
use Rattle.desk_history.proofs.Traces.AcceptedCuts.{accepted_cuts}

pub returns : goal.returns
returns c = accepted_cuts

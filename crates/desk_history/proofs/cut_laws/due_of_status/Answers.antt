use Rattle.desk_history.proofs.cut_laws.due_of_status.Goals as goal
use Rattle.desk_history.proofs.Traces.NextCut.{due_of_status}

pub returns : goal.returns
returns c = due_of_status c.one_division.ensures

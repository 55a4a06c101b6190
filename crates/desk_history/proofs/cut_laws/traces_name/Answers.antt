use Rattle.desk_history.proofs.cut_laws.traces_name.Goals as goal
use Rattle.desk_history.proofs.Traces.NamedTraces.{traces_name}

pub returns : goal.returns
returns c = traces_name

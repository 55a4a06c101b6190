use Rattle.desk_history.proofs.cut_laws.files_of_status.Goals as goal
use Rattle.desk_history.proofs.Traces.FilesOfDays.{files_of_status}

pub returns : goal.returns
returns c = files_of_status

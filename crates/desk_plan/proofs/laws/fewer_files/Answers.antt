use Rattle.desk_plan.proofs.FewerFiles.{fewer_files, fewer_in_day}
use Rattle.desk_plan.proofs.Submissions.{submissions_fit}
use Rattle.desk_plan.proofs.laws.fewer_files.Goals as goal

pub returns : goal.returns
returns c = record { cut = λ test batches h. fewer_files test batches (submissions_fit batches h); cuts = fewer_in_day }

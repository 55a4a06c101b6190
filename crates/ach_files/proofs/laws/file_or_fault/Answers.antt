use Rattle.ach_files.proofs.Outcome.{no_fault, whole_file}
use Rattle.ach_files.proofs.laws.file_or_fault.Goals as goal

pub returns : goal.returns
returns c = record { file = λ bytes f is. no_fault bytes f is; fault = λ bytes e. whole_file bytes e }

use Rattle.ach_files.proofs.Trip.{read_again}
use Rattle.ach_files.proofs.laws.returns_and_changes_are_read.Goals as goal

pub returns : goal.returns
returns c = λ o e a size. read_again o e a size

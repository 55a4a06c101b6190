use Rattle.desk_book.proofs.row_laws.row_steps.Goals as goal
use Rattle.desk_book.proofs.RowSteps.{row_steps}

pub returns : goal.returns
returns c = row_steps

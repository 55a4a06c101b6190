use Rattle.desk_book.proofs.row_laws.verdicts_on_rows.Goals as goal
use Rattle.desk_book.proofs.RetriesOnRows.{verdicts_on_rows}

pub returns : goal.returns
returns c = verdicts_on_rows

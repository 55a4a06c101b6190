use Rattle.desk_book.proofs.OpenRows.{open_rows_suffice}
use Rattle.desk_book.proofs.open_rows.open_rows_suffice.Goals as goal

pub returns : goal.returns
returns c = open_rows_suffice

use Rattle.desk_book.proofs.row_laws.rows_of_part.Goals as goal
use Rattle.desk_book.proofs.EqualParts.{rows_of_part}

pub returns : goal.returns
returns c = rows_of_part c.company_of_part.ensures c.digest_of_part.ensures c.company_lines.ensures

use Rattle.desk_book.proofs.book_laws.tells_operator.Goals as goal
use Rattle.desk_book.proofs.OperatorAnswers.{tells_operator}

pub returns : goal.returns
returns c = tells_operator

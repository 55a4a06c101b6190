use Rattle.desk_book.proofs.book_laws.steps_of_operator.Goals as goal
use Rattle.desk_book.proofs.OperatorSteps.{steps_of_operator}

pub returns : goal.returns
returns c = steps_of_operator c.steps_of_messages.ensures

use Rattle.desk_book.proofs.book_laws.steps_of_messages.Goals as goal
use Rattle.desk_book.proofs.Steps.{steps_of_messages}
use Rattle.desk_book.proofs.Standings.{same_standing}

pub returns : goal.returns
returns c = steps_of_messages same_standing c.row_steps.ensures

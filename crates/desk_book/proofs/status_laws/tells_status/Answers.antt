use Rattle.desk_book.proofs.status_laws.tells_status.Goals as goal
use Rattle.desk_book.proofs.StatusAnswers.{tells_status}

pub returns : goal.returns
returns c = tells_status c.row_steps.ensures c.possible_parts.ensures

use Rattle.desk_book.proofs.AllMessages.{book_tells}
use Rattle.desk_book.proofs.message_laws.book_tells.Goals as goal

pub returns : goal.returns
returns c = book_tells c.tells_replies.ensures c.steps_of_messages.ensures c.tells_operator.ensures c.steps_of_operator.ensures c.tells_cut.ensures c.tells_intake.ensures c.tells_status.ensures c.tells_companies.ensures

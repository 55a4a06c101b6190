use Rattle.desk_book.proofs.message_laws.twice_acts_once.Goals as goal
use Rattle.desk_book.proofs.Repeating.{twice_acts_once}

pub returns : goal.returns
returns c = twice_acts_once c.tells_replies.ensures c.verdicts_on_rows.ensures c.same_contents.ensures c.book_tells.ensures c.reads_leave.ensures

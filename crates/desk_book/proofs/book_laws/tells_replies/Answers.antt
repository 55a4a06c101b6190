use Rattle.desk_book.proofs.book_laws.tells_replies.Goals as goal
use Rattle.desk_book.proofs.Replies.{tells_replies}
use Rattle.desk_book.proofs.Standings.{same_standing}

pub returns : goal.returns
returns c = tells_replies same_standing c.verdicts_on_rows.ensures c.company_lines.ensures

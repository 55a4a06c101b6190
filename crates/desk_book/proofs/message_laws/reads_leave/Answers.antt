use Rattle.desk_book.proofs.message_laws.reads_leave.Goals as goal
use Rattle.desk_book.proofs.Quiet.{reads_leave}

pub returns : goal.returns
returns c = reads_leave

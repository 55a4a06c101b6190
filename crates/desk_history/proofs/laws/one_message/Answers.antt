use Rattle.desk_history.proofs.OneMessage.{one_message}
use Rattle.desk_history.proofs.laws.one_message.Goals as goal

pub returns : goal.returns
returns c = one_message c.file_or_fault.ensures.file c.file_or_fault.ensures.fault c.one_file.ensures

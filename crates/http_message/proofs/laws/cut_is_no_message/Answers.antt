use Rattle.http_message.proofs.LawLemmas.{cut_is_no_message_of}
use Rattle.http_message.proofs.laws.cut_is_no_message.Goals as goal

pub returns : goal.returns
returns c = cut_is_no_message_of

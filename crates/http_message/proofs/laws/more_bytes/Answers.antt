use Rattle.http_message.proofs.StreamLemmas.{Reads-append}
use Rattle.http_message.proofs.laws.more_bytes.Goals as goal

pub returns : goal.returns
returns c = Reads-append

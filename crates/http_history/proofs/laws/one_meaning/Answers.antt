use Rattle.http_history.proofs.Meanings.{one_meaning}
use Rattle.http_history.proofs.laws.one_meaning.Goals as goal

pub returns : goal.returns
returns c = one_meaning c.one_message.ensures

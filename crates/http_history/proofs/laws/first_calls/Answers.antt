use Rattle.http_history.proofs.Firsts.{first_calls}
use Rattle.http_history.proofs.laws.first_calls.Goals as goal

pub returns : goal.returns
returns c = first_calls c.one_meaning.ensures c.authorizations_left_out.ensures

use Rattle.http_history.proofs.Worlds.{own_text}
use Rattle.http_history.proofs.laws.own_text.Goals as goal

pub returns : goal.returns
returns c = own_text c.digest_of_part.ensures

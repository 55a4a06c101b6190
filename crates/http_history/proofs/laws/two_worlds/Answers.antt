use Rattle.http_history.proofs.Worlds.{two_worlds}
use Rattle.http_history.proofs.laws.two_worlds.Goals as goal

pub returns : goal.returns
returns c = two_worlds c.digest_of_part.ensures

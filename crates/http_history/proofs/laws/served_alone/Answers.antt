use Rattle.http_history.proofs.Alone.{served_alone}
use Rattle.http_history.proofs.laws.served_alone.Goals as goal

pub returns : goal.returns
returns c = served_alone c.digest_of_part.ensures c.served_alone.ensures

use Rattle.http_history.proofs.Alone.{calls_alone}
use Rattle.http_history.proofs.laws.calls_alone.Goals as goal

pub returns : goal.returns
returns c = calls_alone c.digest_of_part.ensures

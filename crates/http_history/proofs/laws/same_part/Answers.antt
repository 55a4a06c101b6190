use Rattle.http_history.proofs.Parts.{same_part}
use Rattle.http_history.proofs.laws.same_part.Goals as goal

pub returns : goal.returns
returns c = same_part c.digest_of_part.ensures

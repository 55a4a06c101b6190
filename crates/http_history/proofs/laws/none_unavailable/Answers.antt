use Rattle.http_history.proofs.Answered.{none_unavailable}
use Rattle.http_history.proofs.laws.none_unavailable.Goals as goal

pub returns : goal.returns
returns c = none_unavailable

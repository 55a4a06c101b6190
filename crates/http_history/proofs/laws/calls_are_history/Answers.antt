use Rattle.http_history.proofs.Calls.{calls_are_history}
use Rattle.http_history.proofs.laws.calls_are_history.Goals as goal

pub returns : goal.returns
returns c = calls_are_history

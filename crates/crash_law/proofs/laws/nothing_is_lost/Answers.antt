use Rattle.crash_law.proofs.Kept.{nothing_is_lost}
use Rattle.crash_law.proofs.laws.nothing_is_lost.Goals as goal

pub returns : goal.returns
returns c = nothing_is_lost

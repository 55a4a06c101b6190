use Rattle.desk_history.proofs.laws.two_worlds.Goals as goal
use Rattle.desk_history.proofs.Equal.{two_worlds}

pub returns : goal.returns
returns c = two_worlds

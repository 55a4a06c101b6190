use Rattle.desk_calls.proofs.Alike.{two_desks}
use Rattle.desk_calls.proofs.laws.two_desks.Goals as goal

pub returns : goal.returns
returns g c = two_desks c.two_worlds.ensures g.S.Store.holds g.T.Store.holds

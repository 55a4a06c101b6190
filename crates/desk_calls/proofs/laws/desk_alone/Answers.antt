use Rattle.desk_calls.proofs.Alike.{desk_alone}
use Rattle.desk_calls.proofs.laws.desk_alone.Goals as goal

pub returns : goal.returns
returns g c = desk_alone c.served_alone.ensures g.S.Store.holds g.T.Store.holds

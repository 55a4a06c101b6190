use Rattle.desk_calls.proofs.Running.{crashes_leave}
use Rattle.desk_calls.proofs.laws.crashes_leave.Goals as goal

pub returns : goal.returns
returns g c = crashes_leave c.book_tells.ensures c.reads_leave.ensures g.S.Store.holds g.S.Store.keeps g.S.Store.may_leave

use Rattle.crash_law.proofs.Runs.{stands_after_lives}
use Rattle.crash_law.proofs.laws.stands_after_lives.Goals as goal

pub returns : goal.returns
returns g c = stands_after_lives g.S.Store.holds g.S.Store.keeps g.S.Store.may_leave c.stands_after_crash.ensures

use Rattle.crash_law.proofs.Runs.{stands_after_crash}
use Rattle.crash_law.proofs.laws.stands_after_crash.Goals as goal

pub returns : goal.returns
returns g c = stands_after_crash g.S.Store.holds g.S.Store.keeps g.S.Store.may_leave c.answers_survive.ensures

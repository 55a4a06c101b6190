use Rattle.crash_law.proofs.Runs.{answers_survive}
use Rattle.crash_law.proofs.laws.answers_survive.Goals as goal

pub returns : goal.returns
returns g c = answers_survive c.book_tells.ensures c.reads_leave.ensures c.one_meaning.ensures c.calls_are_history.ensures g.S.Store.holds g.S.Store.keeps g.S.Store.may_leave

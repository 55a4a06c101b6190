use Rattle.remembering_store.specs.Known.{Learns}
use Rattle.remembering_store.proofs.remembering.Remembering.learn_lost.Given as goal

abbrev pub invariant-loop-company : goal.invariant-loop-company
invariant-loop-company g l = Learns g.S.Store.is_clean g.S.Store.holds g.S.Store.may_leave l.fn.self.store l.self.store l.fn.self.known l.self.known

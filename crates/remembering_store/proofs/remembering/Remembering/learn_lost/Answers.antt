use Rattle.remembering_store.proofs.Deciding.{learnt_more}
use Rattle.remembering_store.proofs.Unchanged.{other_sums}
use Rattle.remembering_store.proofs.remembering.Remembering.learn_lost.Goals as goal

pub loop-company-init : goal.loop-company-init
loop-company-init g c = record {
  before = λ clean. clean;
  read = λ clean b held. record { held = held.held; numbered = held.numbered; known = other_sums c.args.self.now.known c.take_lost-company-items.new.self b (c.take_lost-company-items.ensures.known b held.known.sums) held.known };
  left = λ clean k new. new;
}

pub loop-company-preserved : goal.loop-company-preserved
loop-company-preserved g c =
    learnt_more g.S.Store.is_clean g.S.Store.holds g.S.Store.may_leave c.args.self.now.store c.loop-company.self.store c.learn_today.new.self.store
    c.args.self.now.known c.loop-company.self.known c.learn_today.new.self.known c.loop-company.invariant c.learn_today.ensures

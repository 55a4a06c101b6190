use Rattle.remembering_store.proofs.Unchanged.{other_sums}
use Rattle.remembering_store.proofs.remembering.RememberingStore.rates.Goals as goal

pub returns-in-Ok : goal.returns-in-Ok
returns-in-Ok g c = record {
  before = λ clean. c.learn_new.ensures.before (c.in-Ok.ensures.before clean);
  read = λ clean b held.
      let was = c.learn_new.ensures.read (c.in-Ok.ensures.before clean) b held in
      let got = c.in-Ok.ensures.read clean b was.held in
      let known = other_sums c.learn_new.new.self.known c.remember_rates.new.self b (c.remember_rates.ensures b got.0 was.known.sums) was.known in
      (got.0, record { held = got.1; numbered = was.numbered; known = known });
  left = λ clean k new. c.learn_new.ensures.left (c.in-Ok.ensures.before clean) k (c.in-Ok.ensures.left clean k new);
}

pub returns-in-Err : goal.returns-in-Err
returns-in-Err g c = record {
  before = λ clean. c.learn_new.ensures.before (c.in-Err.ensures.before clean);
  read = λ clean b held.
      let was = c.learn_new.ensures.read (c.in-Err.ensures.before clean) b held in
      record { held = c.in-Err.ensures.read clean b was.held; numbered = was.numbered; known = was.known };
  left = λ clean k new. c.learn_new.ensures.left (c.in-Err.ensures.before clean) k (c.in-Err.ensures.left clean k new);
}

use Rattle.remembering_store.proofs.remembering.Remembering.learn_new.Goals as goal

pub returns : goal.returns
returns g c = record {
  before = λ clean. c.known_calendar.ensures.before (c.learn.ensures.before clean);
  read = λ clean b held. c.learn.ensures.read clean b (c.in_ok-calendar.ensures.read (c.learn.ensures.before clean) b held).1;
  left = λ clean k new. c.known_calendar.ensures.left (c.learn.ensures.before clean) k (c.learn.ensures.left clean k new);
}

use Rattle.remembering_store.proofs.remembering.Remembering.learn_today.Goals as goal

pub returns : goal.returns
returns g c = record {
  before = λ clean. c.in-Ok.ensures.before (c.in-Ok-known_calendar.ensures.before (c.learn.ensures.before clean));
  read = λ clean b held.
      let learnt = c.learn.ensures.before clean in
      let day = c.in-Ok.ensures.read (c.in-Ok-known_calendar.ensures.before learnt) b held in
      c.learn.ensures.read clean b (c.in-Ok-known_calendar.ensures.read learnt b day.1).1;
  left = λ clean k new.
      let learnt = c.learn.ensures.before clean in
      c.in-Ok.ensures.left (c.in-Ok-known_calendar.ensures.before learnt) k (c.in-Ok-known_calendar.ensures.left learnt k (c.learn.ensures.left clean k new));
}

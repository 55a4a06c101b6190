use Rattle.desk_book.specs.Sums.{exposures_of}
use Rattle.remembering_store.proofs.Deciding.{read_known}
use Rattle.remembering_store.proofs.remembering.RememberingStore.exposures.Goals as goal

pub returns : goal.returns
returns g c = record {
  before = λ clean. c.known_calendar.ensures.before (c.learn.ensures.before (c.exposures-3.ensures.before clean));
  read = λ clean.
      let learnt = c.exposures-3.ensures.before clean in
      let opened = c.learn.ensures.before learnt in
      read_known _ _ _ c.args.self.now.known c.learn.new.self.known c.exposures-3.result (exposures_of c.args.company c.args.today)
      (λ b held. c.learn.ensures.read learnt b (c.in_ok-calendar.ensures.read opened b held).1)
      (c.exposures-3.ensures.read clean);
  left = λ clean k new.
      let learnt = c.exposures-3.ensures.before clean in
      c.known_calendar.ensures.left (c.learn.ensures.before learnt) k (c.learn.ensures.left learnt k (c.exposures-3.ensures.left clean k new));
}

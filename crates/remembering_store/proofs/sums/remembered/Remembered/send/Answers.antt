use Rattle.std.proofs.Common.{refl}
use Rattle.remembering_store.proofs.Following.{kept_right, sent_followed}
use Rattle.remembering_store.proofs.Rates.{held_at}
use Rattle.remembering_store.proofs.sums.remembered.Remembered.send.Goals as goal

pub returns : goal.returns
returns c =
    let m = c.args.self.now in
    let kept = c.in-Some.rows in
    let sends = c.in-Some-send.ensures in
    record {
      follows = λ done rs is.
          sent_followed m.since c.args.order c.args.day c.in-Some-send.debit c.in-Some-send.cents m.sums c.let_go.new.self c.settle.new.self kept c.send.new.self rs
          sends (c.if-not-let_go.ensures refl) (c.settle.ensures done) (kept_right m kept rs c.in-Some.is is);
      held = λ done rs is. held_at m.since c.args.order c.in-Some-send.debit c.in-Some-send.cents kept sends.row rs sends.found (kept_right m kept rs c.in-Some.is is).rows;
    }

use Rattle.remembering_store.proofs.Following.{kept_right, lapsed_followed}
use Rattle.remembering_store.proofs.Rates.{held_at}
use Rattle.remembering_store.proofs.sums.remembered.Remembered.lapse.Goals as goal

pub returns : goal.returns
returns c =
    let m = c.args.self.now in
    let kept = c.in-Some.rows in
    let lapses = c.in-Some-lapse.ensures in
    record {
      follows = λ done rs is.
          lapsed_followed m.since c.args.order c.in-Some-lapse.debit c.in-Some-lapse.cents m.sums c.let_go.new.self kept c.lapse.new.self rs lapses (c.let_go.ensures done) (kept_right m kept rs c.in-Some.is is);
      held = λ done rs is. held_at m.since c.args.order c.in-Some-lapse.debit c.in-Some-lapse.cents kept lapses.row rs lapses.found (kept_right m kept rs c.in-Some.is is).rows;
    }

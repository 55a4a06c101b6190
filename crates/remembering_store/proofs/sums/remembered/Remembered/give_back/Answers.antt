use Rattle.remembering_store.proofs.Following.{kept_right}
use Rattle.remembering_store.proofs.Returning.{none_followed, some_followed}
use Rattle.remembering_store.proofs.sums.remembered.Remembered.give_back.Goals as goal

pub returns-in-Some-take : goal.returns-in-Some-take
returns-in-Some-take c = λ done rs is.
    let m = c.args.self.now in
    let kept = c.in-Some.rows in
    some_followed m.since _ c.args.returned.now m.sums c.give_back.new.self kept c.take.new.self rs c.in-Some-take.ensures
    c.from.result c.from.ensures (c.give_back.ensures done) (kept_right m kept rs c.in-Some.is is)

pub returns-in-None : goal.returns-in-None
returns-in-None c = λ done rs is.
    let m = c.args.self.now in
    let kept = c.in-Some.rows in
    none_followed m.since c.args.returned.now m.sums kept c.take.new.self rs c.in-None.ensures (kept_right m kept rs c.in-Some.is is)

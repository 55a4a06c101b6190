use Rattle.std.proofs.Common.{sym, ap, ◌∙◌, subst}
use Rattle.remembering_store.specs.Kept.{Holds, Settles}
use Rattle.remembering_store.specs.KnownRow.{KnownRow}
use Rattle.remembering_store.proofs.Loading.{loaded, loaded_held}
use Rattle.remembering_store.proofs.sums.remembered.Remembered.load.Goals as goal

pub returns-in-Some-settled-clause-right : goal.returns-in-Some-settled-clause-right
returns-in-Some-settled-clause-right c = λ done.
    let m = c.args.self.now in
    loaded m.since c.args.order c.in-Some-settled.day c.args.row m.sums c.settle.new.self m.rows c.keep_row.new.rows c.keep_row.ensures
    (ap (λ (k : KnownRow). k.settled) (sym c.row.view_is) ∙ c.in-Some-settled.is) c.in-Some.counted c.in-Some.ensures
    (subst (λ (k : KnownRow). Settles k.debit c.in-Some-settled.day c.in-Some.counted m.sums c.settle.new.self) c.row.view_is (c.settle.ensures done))

pub returns-in-None-clause-right : goal.returns-in-None-clause-right
returns-in-None-clause-right c = λ done.
    let m = c.args.self.now in
    loaded_held m.since c.args.order c.args.row m.sums c.hold.new.self m.rows c.keep_row.new.rows c.keep_row.ensures
    (ap (λ (k : KnownRow). k.settled) (sym c.row.view_is) ∙ c.in-None.is)
    (subst (λ (k : KnownRow). Holds k.debit k.total m.sums c.hold.new.self) c.row.view_is (c.hold.ensures done))

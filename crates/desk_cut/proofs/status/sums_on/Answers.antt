use Rattle.std.proofs.Common.{◌∙◌, ◌+◌, Bool, ap, sym, subst, take}
use Rattle.std.specs.Prelude.{if◌then◌else◌}
use Rattle.desk_cut.specs.Sizes.{sums_on}
use Rattle.desk_cut.specs.Sums.{AreWithin, with_sizes}
use Rattle.desk_cut.proofs.Sums.{one_more, sent_more}
use Rattle.desk_cut.proofs.status.sums_on.Goals as goal
use Rattle.desk_cut.proofs.status.sums_on.Goals.{then-settles_on, else-settles_on}

pub loop-one-preserved : goal.loop-one-preserved
loop-one-preserved c =
    let i = c.loop-one.one-index in
    let one = c.one-item.result in
    let before = sums_on c.args.day (take i c.args.sent.now) in
    let after = λ (t : Bool). if t then with_sizes one.size before else before in
    let step = sent_more c.args.day c.args.sent.now i one c.loop-one-test.true c.one-item.is in
    elim c.if-settles_on.branch [
      | then-settles_on w ↦ record {
        is = w.sums-is ∙ w.put-sums.ensures.value ∙ ap (with_sizes one.size) c.loop-one.invariant.is
            ∙ sym (step ∙ ap after (sym c.settles_on.ensures ∙ w.if-settles_on.true));
        within = subst (AreWithin (i + 1)) (sym w.sums-is) (w.put-sums.ensures.within i c.loop-one.invariant.within);
      }
      | else-settles_on w ↦ record {
        is = w.sums-is ∙ c.loop-one.invariant.is ∙ sym (step ∙ ap after (sym c.settles_on.ensures ∙ w.if-settles_on.false));
        within = subst (AreWithin (i + 1)) (sym w.sums-is) (record { credits = one_more i c.loop-one.sums.credits c.loop-one.invariant.within.credits; debits = one_more i c.loop-one.sums.debits c.loop-one.invariant.within.debits });
      }
    ]

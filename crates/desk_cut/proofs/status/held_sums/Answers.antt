use Rattle.std.proofs.Common.{◌∙◌, ap, sym}
use Rattle.desk_cut.specs.Sums.{with_sizes}
use Rattle.desk_cut.proofs.Sums.{held_more}
use Rattle.desk_cut.proofs.status.held_sums.Goals as goal

pub loop-one-preserved : goal.loop-one-preserved
loop-one-preserved c =
    let one = c.one-item.result in
    record {
      is = c.put-sums.ensures.value ∙ ap (with_sizes one) c.loop-one.invariant.is
          ∙ sym (held_more c.args.sizes.now c.loop-one.one-index one c.loop-one-test.true c.one-item.is);
      within = c.put-sums.ensures.within c.loop-one.one-index c.loop-one.invariant.within;
    }

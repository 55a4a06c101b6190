use Rattle.desk_intake.proofs.Judging.{judged_more}
use Rattle.desk_intake.proofs.judged_item.judge.Goals as goal

pub loop-found_item-preserved : goal.loop-found_item-preserved
loop-found_item-preserved c =
    let so_far = c.loop-found_item.invariant in
    let outcome = c.in_ok-outcome in
    let told = outcome.ensures so_far.came so_far.has in
    record {
      came = _;
      has = told.1;
      rest = judged_more c.loop-found_item.judged.items c.push.new.judged.items so_far.came c.args.found.now c.loop-found_item.found_item-index c.found_item-item.result outcome.outcome _
          c.loop-found_item-test.true c.found_item-item.is told.0 c.in_ok-push.ensures so_far.rest;
    }

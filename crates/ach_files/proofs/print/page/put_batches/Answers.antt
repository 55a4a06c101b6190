use Rattle.ach_files.specs.Outgoing.{batch_rows}
use Rattle.ach_files.proofs.Pages.{fit_item, puts_more}
use Rattle.ach_files.proofs.print.page.put_batches.Goals as goal

pub put_batch-requires : goal.put_batch-requires
put_batch-requires c = fit_item batch_rows c.args.batches.now c.loop-batch.batch-index c.batch-item.result c.requires c.loop-batch-test.true c.batch-item.is

pub loop-batch-preserved : goal.loop-batch-preserved
loop-batch-preserved c = puts_more batch_rows c.args.batches.now c.loop-batch.batch-index c.batch-item.result c.args.out.now.items _ _ c.loop-batch-test.true c.batch-item.is c.loop-batch.invariant c.in_ok-put_batch.ensures.ok

use Rattle.std.proofs.Common.{subst, List, map, take_all}
use Rattle.std.specs.List.{enumerate_from}
use Rattle.ach_files.specs.declared.outgoing.OutgoingBatch.{OutgoingBatch}
use Rattle.ach_files.specs.Printing.{HasPrinted}
use Rattle.desk_history.specs.Files.{outgoing_batch}
use Rattle.desk_cut.specs.declared.batches.NumberedBatch.{NumberedBatch}
use Rattle.desk_cut.specs.Sent.{batch_in}
use Rattle.desk_cut.proofs.Plain.{numbered_more}
use Rattle.desk_cut.proofs.printing.put_batches.Goals as goal

pub loop-index-preserved : goal.loop-index-preserved
loop-index-preserved c = λ header h.
    subst (λ (done : List OutgoingBatch). HasPrinted c.put_batch.new.printer header done)
    (numbered_more (outgoing_batch c.args.odfi) batch_in c.args.batches.now c.loop-index.index c.index-batches-index.result c.loop-index-test.true c.index-batches-index.is)
    (c.in_ok-put_batch.ensures header _ (c.loop-index.invariant header h))

pub returns : goal.returns
returns c = λ header h.
    subst (λ (bs : List NumberedBatch). HasPrinted c.loop-index.printer header (map (outgoing_batch c.args.odfi) (enumerate_from 1 (map batch_in bs))))
    (take_all _ _ c.loop-index-test.false)
    (c.loop-index.invariant header h)

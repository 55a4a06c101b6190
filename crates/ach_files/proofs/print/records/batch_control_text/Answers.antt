use Rattle.ach_files.proofs.Controls.{batch_control_is, kept_debits}
use Rattle.ach_files.proofs.print.records.batch_control_text.Goals as goal

pub cents_of-requires : goal.cents_of-requires
cents_of-requires c = (kept_debits c.args.batch.now c.sums_of_entries-sums.result c.sums_of_entries-sums.ensures c.requires).0

pub cents_of-requires-2 : goal.cents_of-requires-2
cents_of-requires-2 c = (kept_debits c.args.batch.now c.sums_of_entries-sums.result c.sums_of_entries-sums.ensures c.requires).1

pub returns : goal.returns
returns c = batch_control_is c.args.batch.now c.sums_of_entries-sums.result c.cents_of.result c.cents_of-2.result c.sums_of_entries-sums.ensures c.cents_of.ensures c.cents_of-2.ensures c.requires

use Rattle.ach_files.proofs.print.records.batch_control_record.Goals as goal

pub returns : goal.returns
returns c = c.record_of.ensures _ _ (rw c.batch_control_text-text.ensures at c.print_batch_control-outcome.ensures)

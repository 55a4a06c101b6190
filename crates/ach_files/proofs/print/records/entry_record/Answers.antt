use Rattle.ach_files.proofs.print.records.entry_record.Goals as goal

pub returns : goal.returns
returns c = c.record_of.ensures _ _ (rw c.has_addenda.ensures at c.print_entry-outcome.ensures)

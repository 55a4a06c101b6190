use Rattle.ach_records.proofs.print.print_batch_control.Goals as goal

pub returns : goal.returns
returns c = rw (c.get.ensures.value, c.get-2.ensures.value) at c.print_fields.ensures

use Rattle.ach_records.proofs.print.print_entry.Goals as goal

pub returns : goal.returns
returns c = rw (c.get.ensures.value, c.indicator.ensures) at c.print_fields.ensures

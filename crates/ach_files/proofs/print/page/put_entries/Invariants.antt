use Rattle.std.proofs.Common.{take}
use Rattle.std.specs.List.{flat_map}
use Rattle.ach_files.specs.Outgoing.{Puts, entry_rows}
use Rattle.ach_files.proofs.print.page.put_entries.Given as goal

abbrev pub invariant-loop-entry : goal.invariant-loop-entry
invariant-loop-entry l = Puts l.fn.out.items l.out.items (flat_map entry_rows (take l.entry-index l.entries))

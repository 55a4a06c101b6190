use Rattle.std.proofs.Common.{◌≡◌, ◌++◌, replicate}
use Rattle.ach_files.specs.Structure.{nines}
use Rattle.ach_files.specs.Outgoing.{page}
use Rattle.ach_files.proofs.print.page.put_fillers.Given as goal

abbrev pub invariant-loop : goal.invariant-loop
invariant-loop l = l.out.items ≡ l.fn.out.items ++ page (replicate l.counter nines)

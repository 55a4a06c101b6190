use Rattle.std.proofs.Common.{[], map, take}
use Rattle.std.specs.List.{enumerate_from}
use Rattle.ach_records.specs.declared.print.FileHeaderText.{FileHeaderText}
use Rattle.ach_files.specs.Printing.{HasPrinted}
use Rattle.desk_history.specs.Files.{outgoing_batch}
use Rattle.desk_cut.specs.Sent.{batch_in}
use Rattle.desk_cut.proofs.printing.put_batches.Given as goal

-- the batches so far are printed
abbrev pub invariant-loop-index : goal.invariant-loop-index
invariant-loop-index l = (header : FileHeaderText) → HasPrinted l.fn.printer header [] → HasPrinted l.printer header (map (outgoing_batch l.odfi) (enumerate_from 1 (map batch_in (take l.index l.batches))))

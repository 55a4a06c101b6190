use Rattle.std.proofs.Common.{◌≡◌, ◌++◌, ◌+◌, map, drop}
use Rattle.std.specs.List.{enumerate_from}
use Rattle.desk_book.specs.OnCut.{sent_row, sent_rows}
use Rattle.desk_cut.specs.Sent.{batch_in, file_in}
use Rattle.desk_cut.proofs.files.push_rows.Given as goal

-- the rows so far, and those of the batches that are left
abbrev pub invariant-loop-index : goal.invariant-loop-index
invariant-loop-index l =
    l.rows.items ++ map (sent_row (file_in l.file)) (enumerate_from (l.index + 1) (map batch_in (drop l.index l.file.batches.now)))
    ≡ l.fn.rows.items ++ sent_rows (file_in l.file)

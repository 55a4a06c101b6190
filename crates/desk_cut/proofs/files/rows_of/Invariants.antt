use Rattle.std.proofs.Common.{◌≡◌, ◌++◌, map, drop}
use Rattle.std.specs.List.{flat_map}
use Rattle.desk_book.specs.OnCut.{sent_rows}
use Rattle.desk_cut.specs.Sent.{file_in}
use Rattle.desk_cut.proofs.files.rows_of.Given as goal

abbrev pub invariant-loop-file : goal.invariant-loop-file
invariant-loop-file l = l.rows.items ++ flat_map sent_rows (map file_in (drop l.file-index l.files)) ≡ flat_map sent_rows (map file_in l.files)

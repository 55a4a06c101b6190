use Rattle.std.proofs.Common.{◌≡◌, map, take}
use Rattle.desk_book.specs.OnCut.{file_row}
use Rattle.desk_cut.specs.Sent.{file_in}
use Rattle.desk_cut.proofs.files.texts_of.Given as goal

abbrev pub invariant-loop-file : goal.invariant-loop-file
invariant-loop-file l = l.rows.items ≡ map (file_row l.identity) (map file_in (take l.file-index l.files))

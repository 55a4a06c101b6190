use Rattle.std.proofs.Common.{◌≡◌, drop}
use Rattle.desk_book.specs.Standing.{row_under}
use Rattle.memory_store.specs.Finds.{rows_for}
use Rattle.memory_store.specs.Placed.{picked}
use Rattle.memory_store.proofs.entries.submission_among.Given as goal

abbrev pub invariant-loop-place : goal.invariant-loop-place
invariant-loop-place l = row_under (rows_for (picked l.kept (drop l.place-index l.places)) l.company) l.reference ≡ row_under (rows_for (picked l.kept l.places) l.company) l.reference

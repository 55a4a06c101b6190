use Rattle.std.proofs.Common.{◌≡◌, take, map}
use Rattle.desk_book.specs.OpenSubmissions.{open_submission}
use Rattle.desk_book.proofs.open_submission.open_submissions.Given as goal

abbrev pub invariant-loop-row : goal.invariant-loop-row
invariant-loop-row l = l.found.items ≡ map open_submission (take l.row-index l.rows)

use Rattle.std.proofs.Common.{◌≡◌, ◌++◌, length, map}
use Rattle.desk_book.specs.OnBook.{line_of}
use Rattle.desk_calls.proofs.company.statement.lines.Given as goal

abbrev pub invariant-loop-posting : goal.invariant-loop-posting
invariant-loop-posting l = map line_of l.initial.left ≡ l.lines.items ++ map line_of l.left

abbrev pub decreases-loop-posting : goal.decreases-loop-posting
decreases-loop-posting l = length l.left

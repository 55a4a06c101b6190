use Rattle.std.proofs.Common.{◌≡◌, ◌++◌, drop}
use Rattle.desk_book.specs.Standing.{facts_in}
use Rattle.desk_book.proofs.sums.facts_of.Given as goal

abbrev pub invariant-loop-row : goal.invariant-loop-row
invariant-loop-row l = l.facts.items ++ facts_in (drop l.row-index l.rows) ≡ facts_in l.rows

use Rattle.std.proofs.Common.{◌≡◌, ◌++◌, map, zip}
use Rattle.desk_history.specs.Facts.{entry_fact}
use Rattle.desk_book.proofs.sums.push_facts.Given as goal

-- the facts so far, and those of the entries that are left
abbrev pub invariant-loop-entry : goal.invariant-loop-entry
invariant-loop-entry l = l.facts.items ++ map (entry_fact l.debit) (zip l.entry-iterator.a.rest.now l.entry-iterator.b.rest.now) ≡ l.fn.facts.items ++ map (entry_fact l.debit) (zip l.row.content.entries l.row.states)

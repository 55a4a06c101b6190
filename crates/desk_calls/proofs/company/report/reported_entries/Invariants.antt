use Rattle.std.proofs.Common.{◌≡◌, ◌+◌, ◌++◌, map, zip, length}
use Rattle.std.specs.List.{enumerate_from}
use Rattle.desk_history.specs.Reports.{reported_entry}
use Rattle.desk_calls.proofs.company.report.reported_entries.Given as goal

-- the entries so far, and those that are left
abbrev pub invariant-loop-entry : goal.invariant-loop-entry
invariant-loop-entry l = record {
  so_far : l.found.items ++ map reported_entry (enumerate_from (l.index + 1) (zip l.entry-iterator.a.rest.now l.entry-iterator.b.rest.now)) ≡ map reported_entry (enumerate_from 1 (zip l.entries l.states));
  counted : l.index + length l.entry-iterator.a.rest.now ≡ length l.entries;
}

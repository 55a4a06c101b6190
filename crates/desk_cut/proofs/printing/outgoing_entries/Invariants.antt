use Rattle.std.proofs.Common.{◌≡◌, ◌++◌, ◌+◌, map, drop, true}
use Rattle.std.specs.List.{enumerate_from, list_all}
use Rattle.ach_files.specs.Outgoing.{entry_fits}
use Rattle.desk_history.specs.Files.{outgoing_entry}
use Rattle.desk_history.specs.Sendings.{sent_entry}
use Rattle.desk_cut.specs.Plain.{plain_entry}
use Rattle.desk_cut.specs.Sent.{batch_in, outgoing_entries}
use Rattle.desk_cut.proofs.printing.outgoing_entries.Given as goal

-- the entries so far, and those that are left
abbrev pub invariant-loop-index : goal.invariant-loop-index
invariant-loop-index l = record {
  value :
      map plain_entry l.outgoing.items
      ++ map (outgoing_entry l.odfi) (map (λ x. sent_entry (batch_in l.batch) x.0 x.1) (enumerate_from (l.index + 1) (drop l.index l.entries)))
      ≡ outgoing_entries l.odfi (batch_in l.batch);
  fits : list_all entry_fits l.outgoing.items ≡ true;
}

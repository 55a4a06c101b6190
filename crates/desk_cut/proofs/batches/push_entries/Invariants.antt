use Rattle.std.proofs.Common.{◌≡◌, ◌++◌, ◌+◌, map, drop}
use Rattle.std.specs.List.{enumerate_from}
use Rattle.desk_history.specs.Sendings.{sent_entry, batch_entries}
use Rattle.desk_cut.specs.Sent.{batch_in}
use Rattle.desk_cut.proofs.batches.push_entries.Given as goal

-- the entries so far, and those that are left
abbrev pub invariant-loop-index : goal.invariant-loop-index
invariant-loop-index l =
    l.sent.items ++ map (λ x. sent_entry (batch_in l.batch) x.0 x.1) (enumerate_from (l.index + 1) (drop l.index l.entry-items))
    ≡ l.fn.sent.items ++ batch_entries (batch_in l.batch)

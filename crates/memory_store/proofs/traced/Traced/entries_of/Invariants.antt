use Rattle.std.proofs.Common.{◌≡◌, ◌++◌, List, drop, length, map}
use Rattle.desk_history.specs.declared.sent_entry.SentEntry.{SentEntry}
use Rattle.memory_store.specs.Indexed.{IsIndexed}
use Rattle.memory_store.specs.Kept.{row_in}
use Rattle.memory_store.specs.Placed.{FindsAll}
use Rattle.memory_store.specs.Traced.{traced_among}
use Rattle.memory_store.specs.declared.place_index.KeyKind.TheVariants as kinds
use Rattle.memory_store.proofs.traced.Traced.entries_of.Given as goal

-- what the traces so far name, and those that are left
abbrev pub invariant-loop-trace : goal.invariant-loop-trace
invariant-loop-trace l =
    (sent : List SentEntry) → IsIndexed sent l.self.traces.now → l.self.traces.now.indexed ≡ length sent → FindsAll kinds.Reference (map row_in l.self.kept.now) l.self.references.now
    → l.named.items ++ map (traced_among l.self.odfi sent l.self.kept.now) (drop l.trace-index l.traces) ≡ map (traced_among l.self.odfi sent l.self.kept.now) l.traces

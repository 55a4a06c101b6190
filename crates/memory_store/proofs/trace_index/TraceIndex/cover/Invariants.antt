use Rattle.std.proofs.Common.{◌≡◌}
use Rattle.memory_store.specs.Indexed.{IsIndexed}
use Rattle.memory_store.proofs.trace_index.TraceIndex.cover.Given as goal

abbrev pub invariant-loop-at : goal.invariant-loop-at
invariant-loop-at l = record {
  covered : l.self.indexed ≡ l.at;
  right : IsIndexed l.sent l.fn.self → IsIndexed l.sent l.self;
}

use Rattle.std.proofs.Common.{◌≡◌}
use Rattle.memory_store.specs.Indexed.{AreSettled}
use Rattle.memory_store.proofs.settlement_index.SettlementIndex.cover.Given as goal

abbrev pub invariant-loop-at : goal.invariant-loop-at
invariant-loop-at l = record {
  covered : l.self.indexed ≡ l.at;
  right : AreSettled l.sent l.fn.self → AreSettled l.sent l.self;
}

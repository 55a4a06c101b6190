use Rattle.std.proofs.Common.{◌≡◌, ◌+◌, ◌-◌, ◌≤◌}
use Rattle.std.specs.Prelude.{filter_map, max}
use Rattle.std.specs.List.{range_with_len, reduce}
use Rattle.std.specs.BTreeMap.{get}
use Rattle.std.specs.Ordering.{nat_cmp}
use Rattle.memory_store.proofs.settlement_index.SettlementIndex.latest.Given as goal

abbrev pub invariant-loop-sequence : goal.invariant-loop-sequence
invariant-loop-sequence l = record {
  latest : l.latest ≡ reduce max (filter_map (get nat_cmp l.self.settled) (range_with_len l.from (l.sequence - l.from)));
  within : l.sequence - l.from ≤ l.to + 1 - l.from;
}

use Rattle.std.proofs.Common.{◌≡◌, ℕ, ◌+◌, ◌-◌, ◌∙◌, ap, sym, arith}
use Rattle.std.specs.Prelude.{Option, filter_map, max}
use Rattle.std.specs.List.{range_with_len, reduce}
use Rattle.std.specs.BTreeMap.{get}
use Rattle.std.specs.Ordering.{nat_cmp}
use Rattle.memory_store.specs.Finds.{later_of}
use Rattle.memory_store.proofs.Indexed.{settled_whole}
use Rattle.memory_store.proofs.Latest.{latest_next}
use Rattle.memory_store.proofs.settlement_index.SettlementIndex.latest.Goals as goal

pub loop-sequence-preserved : goal.loop-sequence-preserved
loop-sequence-preserved c =
    let f : ℕ → Option ℕ = get nat_cmp c.args.self.now.settled in
    let at = c.loop-sequence.sequence in
    let from = c.args.from in
    let place : from + (at - from) ≡ at = omega arith in
    let next : at - from + 1 ≡ at + 1 - from = omega arith in
    record {
      latest = c.later-latest.ensures
          ∙ (λ i. later_of (c.loop-sequence.invariant.latest i) ((c.copied.ensures ∙ c.get.ensures.value) i))
          ∙ sym (latest_next f from (at - from) at place)
          ∙ ap (λ (n : ℕ). reduce max (filter_map f (range_with_len from n))) next;
      within = omega arith;
    }

pub returns : goal.returns
returns c = λ sent held whole.
    let f : ℕ → Option ℕ = get nat_cmp c.args.self.now.settled in
    let count : c.loop-sequence.sequence - c.args.from ≡ c.args.to + 1 - c.args.from = omega (arith, c.loop-sequence.invariant.within) in
    c.loop-sequence.invariant.latest
    ∙ ap (λ (n : ℕ). reduce max (filter_map f (range_with_len c.args.from n))) count
    ∙ (λ i. reduce max (filter_map (λ s. settled_whole sent c.args.self.now held whole s i) (range_with_len c.args.from (c.args.to + 1 - c.args.from))))

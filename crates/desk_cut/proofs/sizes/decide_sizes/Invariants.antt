use Rattle.std.proofs.Common.{◌≡◌, ◌+◌, ◌≤◌, ◌++◌, drop}
use Rattle.desk_cut.specs.Sizes.{lapsing_among, sent_sizes}
use Rattle.desk_cut.proofs.sizes.decide_sizes.Given as goal

-- what is sent and what lapses so far, and what the rest gives
abbrev pub invariant-loop-one : goal.invariant-loop-one
invariant-loop-one l = record {
  sent : l.sent.items ++ sent_sizes l.holidays l.day (drop l.one-index l.sizes) ≡ sent_sizes l.holidays l.day l.sizes;
  lapsing : l.lapsing + lapsing_among l.holidays l.day (drop l.one-index l.sizes) ≡ lapsing_among l.holidays l.day l.sizes;
  within : l.lapsing ≤ l.one-index;
}

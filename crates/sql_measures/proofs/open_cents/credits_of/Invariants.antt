use Rattle.std.proofs.Common.{◌≡◌, ◌≤◌, ◌*◌, take, sum_by}
use Rattle.sql_measures.proofs.open_cents.credits_of.Given as goal

abbrev pub invariant-loop-pair : goal.invariant-loop-pair
invariant-loop-pair l = record {
  so_far : l.cents ≡ sum_by (λ pair. pair.0) (take l.pair-index l.pairs);
  within : l.cents ≤ 18446744073709551615 * l.pair-index;
}

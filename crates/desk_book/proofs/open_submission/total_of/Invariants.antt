use Rattle.std.proofs.Common.{◌≡◌, ◌≤◌, ◌*◌, take, sum_by}
use Rattle.desk_book.proofs.open_submission.total_of.Given as goal

abbrev pub invariant-loop-fact : goal.invariant-loop-fact
invariant-loop-fact l = record {
  so_far : l.total ≡ sum_by (λ f. f.cents) (take l.fact-index l.facts);
  within : l.total ≤ 18446744073709551615 * l.fact-index;
}

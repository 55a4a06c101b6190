use Rattle.std.proofs.Common.{◌≡◌, ◌*◌, take, pos, neg_ℤ, ◌≤ℤ◌}
use Rattle.desk_accounts.specs.Balance.{balance}
use Rattle.desk_accounts.proofs.balances.balance.Given as goal

abbrev pub invariant-loop-posting : goal.invariant-loop-posting
invariant-loop-posting l = record {
  so_far : l.sum ≡ balance l.account l.day (take l.posting-index l.postings);
  low : neg_ℤ (pos (9_223_372_036_854_775_808 * l.posting-index)) ≤ℤ l.sum;
  high : l.sum ≤ℤ pos (9_223_372_036_854_775_808 * l.posting-index);
}

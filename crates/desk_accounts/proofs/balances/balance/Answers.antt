use Rattle.std.proofs.Common.{arith}
use Rattle.std.proofs.lemmas.Int.{ints, to_z-of_z}
use Rattle.desk_accounts.proofs.Lines.{balance_more}
use Rattle.desk_accounts.proofs.balances.balance.Goals as goal

pub loop-posting-preserved : goal.loop-posting-preserved
loop-posting-preserved c = record {
  so_far = grind (arith, ints, to_z-of_z, balance_more);
  low = omega (arith, ints);
  high = omega (arith, ints);
}

use Rattle.std.proofs.Common.{◌≡◌, ◌≤◌, ℕ, take, true}
use Rattle.desk_accounts.specs.Balance.{days_balance, fits_i128}
use Rattle.desk_accounts.proofs.balances.balance_of_days.Given as goal

abbrev pub invariant-loop-row : goal.invariant-loop-row
invariant-loop-row l = record {
  so_far : l.sum ≡ days_balance l.day (take l.row-index l.rows);
  fits : (first : ℕ) → first ≤ l.row-index → fits_i128 (days_balance l.day (take first l.rows)) ≡ true;
}

use Rattle.desk_accounts.proofs.Days.{balance_by_days}
use Rattle.desk_accounts.proofs.ValueDays.{day_sums_are, day_sums_ascend, day_sums_filled}
use Rattle.desk_accounts.proofs.laws.balances_by_day.Goals as goal

pub returns : goal.returns
returns c = record { balance = balance_by_days; sums = day_sums_are; ascending = day_sums_ascend; days = day_sums_filled }

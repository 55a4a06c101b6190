use Rattle.std.proofs.Common.{◌≤◌}
use Rattle.desk_book.proofs.open_rows.first_open_day.Given as goal

abbrev pub invariant-loop : goal.invariant-loop
invariant-loop l = l.since ≤ l.today

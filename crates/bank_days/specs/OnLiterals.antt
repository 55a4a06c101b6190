-- The definitions that an answer unfolds to compute values at literal texts and numbers.
use Rattle.std.specs.Prelude.{⊤}
use Rattle.csv.proofs.OnLiterals.{csv_on_literals}
use Rattle.ach_fields.specs.Digits.{number}
use Rattle.bank_days.specs.Date.{date_in, number_of_date, days_of_years, days_of_months}
use Rattle.bank_days.specs.Day.{day_at, day_of}
use Rattle.bank_days.specs.Calendar.{banking_days, first_from, nth_after}
use Rattle.bank_days.specs.HolidayList.{rows_in, first_fault, holidays_of_rows, holidays_in}

unfoldable pub bank_days_on_literals : ⊤
unfolding csv_on_literals number date_in number_of_date days_of_years days_of_months day_at day_of banking_days first_from nth_after rows_in first_fault holidays_of_rows holidays_in
bank_days_on_literals = tt

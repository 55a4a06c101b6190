use Rattle.std.proofs.Common.{map, take, Some}
use Rattle.bank_days.specs.Calendar.{AreHolidays}
use Rattle.bank_days.proofs.HolidayRows.{Taken}
use Rattle.bank_days.proofs.calendar.Calendar.from_days.Given as goal

abbrev pub invariant-loop-day : goal.invariant-loop-day
invariant-loop-day l = record {
  taken : Taken (map (λ d. Some d) (take l.day-index l.days)) l.holidays.items;
  valid : AreHolidays l.holidays.items;
}

-- The numbers of faults.
use Rattle.std.specs.Prelude.{ℕ}
use Rattle.bank_days.specs.declared.calendar_fault.CalendarFault.{CalendarFault}
use Rattle.bank_days.specs.declared.calendar_fault.CalendarFault.TheVariants as faults

abbrev pub number_of : CalendarFault → ℕ
number_of (faults.BadRow row) = 1
number_of (faults.NotAscending row) = 2
number_of faults.TooMany = 3
number_of faults.NoMemory = 4

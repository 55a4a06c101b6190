-- The numbers of faults.
use Rattle.std.specs.Prelude.{ℕ}
use Rattle.ach_records.specs.declared.fault.RecordFault.{RecordFault}
use Rattle.ach_records.specs.declared.fault.RecordFault.TheVariants as faults

abbrev pub number_of : RecordFault → ℕ
number_of faults.BadType = 1
number_of faults.BadAddendaType = 2
number_of (faults.BadNumber position) = 3
number_of (faults.BadByte position) = 4

-- The numbers of faults.
use Rattle.std.specs.Prelude.{ℕ}
use Rattle.ach_fields.specs.declared.fault.FieldFault.{FieldFault}
use Rattle.ach_fields.specs.declared.fault.FieldFault.TheVariants as faults

abbrev pub number_of : FieldFault → ℕ
number_of faults.NotDigit = 1
number_of faults.NotText = 2
number_of faults.TooLong = 3
number_of faults.BadCheck = 4
number_of faults.BadDate = 5

-- The numbers of faults.
use Rattle.std.specs.Prelude.{ℕ}
use Rattle.ach_files.specs.declared.fault.FileFault.{FileFault}
use Rattle.ach_files.specs.declared.fault.FileFault.TheVariants as faults
use Rattle.ach_files.specs.declared.outgoing.PrintFault.{PrintFault}
use Rattle.ach_files.specs.declared.outgoing.PrintFault.TheVariants as print_faults

abbrev pub number_of : FileFault → ℕ
number_of faults.TooLarge = 1
number_of faults.BadLength = 2
number_of faults.BadByte = 3
number_of faults.BadOrder = 4
number_of faults.BadNumber = 5
number_of faults.ForwardEntry = 6
number_of faults.BadAddenda = 7
number_of faults.BadCount = 8
number_of faults.BadHash = 9
number_of faults.BadTotal = 10
number_of faults.BadBlock = 11
number_of faults.NoMemory = 12
number_of faults.Failed = 13

abbrev pub print_number_of : PrintFault → ℕ
print_number_of print_faults.BadField = 1
print_number_of print_faults.TotalTooLarge = 2
print_number_of print_faults.TooManyRecords = 3
print_number_of print_faults.NoMemory = 4

-- The names of faults.
use Rattle.std.specs.Prelude.{ℕ, List, codes}
use Rattle.ach_files.specs.declared.fault.FileFault.{FileFault}
use Rattle.ach_files.specs.declared.fault.FileFault.TheVariants as faults

abbrev pub name_of : FileFault → List ℕ
name_of faults.TooLarge = codes "TooLarge"
name_of faults.BadLength = codes "BadLength"
name_of faults.BadByte = codes "BadByte"
name_of faults.BadOrder = codes "BadOrder"
name_of faults.BadNumber = codes "BadNumber"
name_of faults.ForwardEntry = codes "ForwardEntry"
name_of faults.BadAddenda = codes "BadAddenda"
name_of faults.BadCount = codes "BadCount"
name_of faults.BadHash = codes "BadHash"
name_of faults.BadTotal = codes "BadTotal"
name_of faults.BadBlock = codes "BadBlock"
name_of faults.NoMemory = codes "NoMemory"
name_of faults.Failed = codes "Failed"

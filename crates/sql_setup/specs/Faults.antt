-- The numbers of faults, and the fault that is reported.
use Rattle.std.specs.Prelude.{ℕ}
use Rattle.sql_setup.specs.declared.fault.DeskFault.{DeskFault}
use Rattle.sql_setup.specs.declared.fault.DeskFault.TheVariants.{Told, Failed}
use Rattle.sql_setup.specs.declared.fault.OpenFault.{OpenFault}
use Rattle.sql_setup.specs.declared.fault.OpenFault.TheVariants.{NotADesk, WrongVersion, Unavailable, Exists}

abbrev pub number_of : OpenFault → ℕ
number_of NotADesk = 1
number_of (WrongVersion version) = 2
number_of Unavailable = 3
number_of Exists = 4

-- an error is reported as `Unavailable`
abbrev pub told_of : DeskFault → OpenFault
told_of (Told fault) = fault
told_of (Failed error) = Unavailable

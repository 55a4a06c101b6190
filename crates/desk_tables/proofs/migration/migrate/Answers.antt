use Rattle.std.proofs.Common.{◌≡◌, ◌∙◌, ap, Result, Ok, Err}
use Rattle.sql_setup.specs.Faults.{told_of}
use Rattle.sql_setup.specs.declared.fault.DeskFault.{DeskFault}
use Rattle.sql_setup.specs.declared.fault.OpenFault.{OpenFault}
use Rattle.sql_setup.specs.declared.fault.OpenFault.TheVariants.{Unavailable}
use Rattle.desk_tables.proofs.migration.migrate.Goals as goal

fault_in : {A : Type 0} → Result A DeskFault → OpenFault
fault_in (Ok done) = Unavailable
fault_in (Err why) = told_of why

pub returns-in-Err-clause-inside : goal.returns-in-Err-clause-inside
unfolding fault_in
returns-in-Err-clause-inside g c = λ is.
    let (told, same) = c.in-Err.ensures.inside is in
    (ap Err (c.told.ensures ∙ ap fault_in told), same)

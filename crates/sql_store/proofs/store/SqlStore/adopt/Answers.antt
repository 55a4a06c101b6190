use Rattle.std.proofs.Common.{◌≡◌, ◌≢◌, ◌∙◌, ap, Err}
use Rattle.sql_setup.specs.Faults.{told_of}
use Rattle.sql_setup.specs.declared.fault.DeskFault.{DeskFault}
use Rattle.sql_setup.specs.declared.fault.DeskFault.TheVariants.{Told, Failed}
use Rattle.sql_setup.specs.declared.fault.OpenFault.TheVariants.{Exists}
use Rattle.sql_store.proofs.store.SqlStore.adopt.Goals as goal

not_exists : (why : DeskFault) → why ≢ Told Exists → told_of why ≢ Exists
not_exists (Told fault) other is = other (ap Told is)
not_exists (Failed error) other is = absurd (cc)

pub returns-in-Err-clause-inside : goal.returns-in-Err-clause-inside
returns-in-Err-clause-inside g c = λ is. ap Err (c.told.ensures ∙ ap told_of (c.in-Err.ensures.inside is).0)

pub returns-in-Err-clause-otherwise : goal.returns-in-Err-clause-otherwise
returns-in-Err-clause-otherwise g c = rw c.told.ensures (not_exists c.in-Err.why c.in-Err.ensures.otherwise)

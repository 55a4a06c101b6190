-- What a connection is known to have once its version and its schema are checked to be the first.
use Rattle.std.proofs.Common.{◌≡◌, pos, Some, Result, Ok, Err, sym, ◌∙◌}
use Rattle.std.specs.Prelude.{OnOk}
use Rattle.sqlite_schema.specs.declared.schema.Schema.{Schema}
use Rattle.sqlite_trees.specs.declared.store.Store.{Ghosts}
use Rattle.sqlite.specs.Held.{Held, state}
use Rattle.sqlite.specs.State.{State}
use Rattle.sql_setup.specs.Checked.{TellsSchema}
use Rattle.sql_setup.specs.Versions.{ShowsVersion}
use Rattle.sql_setup.proofs.VersionFound.{version_found}
use Rattle.sql_setup.specs.declared.fault.DeskFault.{DeskFault}
use Rattle.sql_migration.specs.FirstVersion.{first_version, first_schema, WasFirst}

pub was_first : (old new : State) → ShowsVersion old new (pos first_version) → WasFirst old new
was_first old new shown n is = let same = version_found old new (Some (pos first_version)) shown n is in cc

module _ {X A : Type 0} (g : Ghosts X) (left : Held X) (schema : Schema) (is : schema ≡ (state g left).now.schema) where
  pub first_checked : (result : Result A DeskFault) → TellsSchema first_schema schema result → OnOk result ((state g left).now.schema ≡ first_schema)
  first_checked (Ok done) told = sym is ∙ told
  first_checked (Err why) told = tt

-- What is known of a connection that has a desk's tables.
use Rattle.std.specs.Prelude.{◌≡◌, ◌≢◌, ⊤, false, pos, Result, Ok, Err}
use Rattle.sqlite_schema.specs.declared.schema.Schema.{Schema}
use Rattle.sqlite.specs.State.{State, IsUnchanged}
use Rattle.sql_statements.specs.Layouts.{Holds}
use Rattle.desk_book.specs.Book.{Book}
use Rattle.sql_tables.specs.Schema.{desk_schema}
use Rattle.sql_tables.specs.Layout.{desk_layout, Keeps, Sees}
use Rattle.sql_tables.specs.DeskTables.{version}
use Rattle.sql_tables.specs.ByName.{IsStored}
use Rattle.sql_tables.specs.Tables.{Tables}
use Rattle.sql_setup.specs.Versions.{ShowsVersion}
use Rattle.sql_setup.specs.declared.fault.DeskFault.{DeskFault}
use Rattle.sql_setup.specs.declared.fault.DeskFault.TheVariants.{Told, Failed}
use Rattle.sql_setup.specs.declared.fault.OpenFault.TheVariants.{NotADesk, WrongVersion, Unavailable, Exists}

-- the schema is this one, or another, or memory ran out
abbrev pub TellsSchema : {A : Type 0} → (wanted schema : Schema) → Result A DeskFault → Type 0
TellsSchema wanted schema (Ok done) = schema ≡ wanted
TellsSchema wanted schema (Err (Told Unavailable)) = schema ≢ wanted
TellsSchema wanted schema (Err (Told NotADesk)) = ⊥
TellsSchema wanted schema (Err (Told (WrongVersion n))) = ⊥
TellsSchema wanted schema (Err (Told Exists)) = ⊥
TellsSchema wanted schema (Err (Failed error)) = ⊤

-- All tables and indexes are those of a desk, and the version is theirs. What is committed is seen: whatever records and
-- whatever book the trees keep, the connection has.
pub record IsDesk (old new : State) : Type 0 where
  pub unchanged : IsUnchanged old new
  pub autocommit : new.in_transaction ≡ false
  pub settled : new.now ≡ new.committed
  pub schema : new.now.schema ≡ desk_schema
  pub version : ShowsVersion old new (pos version)
  pub tables : (t : Tables) → IsStored old.committed.trees t → Holds desk_layout new.now t
  pub sees : (b : Book) → Keeps old.committed.trees b → Sees new b

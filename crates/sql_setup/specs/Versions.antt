-- What the row of the desk says of the version of the tables.
use Rattle.std.specs.Prelude.{◌≡◌, ◌≢◌, ◌⊎◌, ℕ, ℤ, List, [], ◌∷◌, codes, drop, slice_get, Option, Some, None, IsTrue}
use Rattle.sqlite.specs.Effect.{Database}
use Rattle.sqlite.specs.State.{State, Shown}
use Rattle.sqlite_value.specs.declared.value.Value.TheVariants.{Int}
use Rattle.sqlite_value.specs.Order.{Row}
use Rattle.sql_statements.specs.StoredRows.{whole, Stores}
use Rattle.sql_tables.specs.Columns.{number}
use Rattle.sql_tables.specs.DeskTables as the
use Rattle.sql_tables.specs.Question.{ask, is_one, rises}
use Rattle.sql_tables.specs.Schema.{desk_schema}
pub use Rattle.sql_tables.specs.Schema.{first_schema}
use Rattle.sql_tables.specs.declared.records.DeskRecord.{DeskRecord}
use Rattle.sql_query_laws.specs.Shows.{ReadsFirst}
use Rattle.sql_tables.specs.Description.{as_row, table}

abbrev pub version_text : List ℕ
version_text = (ask the.desk ("version" ∷ []) (is_one "id" ∷ []) (rises "id" ∷ [])).text

-- it shows whether the table has a row, whatever its columns are
abbrev pub row_text : List ℕ
row_text = codes "SELECT 1 FROM desk LIMIT 1"

abbrev pub version_row : (version : ℤ) → Row
version_row n = Int n ∷ []

-- the first of these rows says this version, or says none
abbrev pub SaysFirst : List Row → Option ℤ → Type 0
SaysFirst rows (Some n) = slice_get rows 0 ≡ Some (version_row n)
SaysFirst rows None = (n : ℤ) → slice_get rows 0 ≢ Some (version_row n)

-- so the query of the version shows
pub record FindsVersion (found : Option ℤ) (old new : State) : Type 0 where
  pub was_open : IsTrue old.is_open
  pub rows : List Row
  pub shown : Shown version_text [] old new rows
  pub says : SaysFirst rows found

-- the query of the version shows this one
abbrev pub ShowsVersion : (old new : State) → (version : ℤ) → Type 0
ShowsVersion old new n = ReadsFirst version_text [] version_row old new (Some n)

-- ---- a database of a desk whose row says a version

-- the row of a desk whose tables have this version
abbrev pub versioned_row : (version : ℕ) → DeskRecord → Row
versioned_row version d = number 1 ∷ number version ∷ drop 2 (as_row the.desk d)

-- the tables are those of version 1 or of version 2, and the row of the desk has this version
pub record IsOfVersion (db : Database) (version : ℕ) : Type 0 where
  pub schema : (db.schema ≡ first_schema) ⊎ (db.schema ≡ desk_schema)
  pub desk : DeskRecord
  pub row : Stores (whole (versioned_row version)) (db.trees (table the.desk).tree) (desk ∷ [])

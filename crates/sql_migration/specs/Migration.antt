-- The transaction of a migration, and what is then said of the connection.
use Rattle.std.specs.Prelude.{◌≡◌, ⊤, ℕ, List, [], ◌∷◌, fold, pos, Option, None, Some, option_map, Result, IsTrue}
use Rattle.sqlite_schema.specs.declared.schema.Schema.{Schema}
use Rattle.sqlite_trees.specs.Tree.{Trees}
use Rattle.sqlite_trees.specs.declared.store.Store.{Ghosts}
use Rattle.sqlite_value.specs.Order.{Row}
use Rattle.sqlite_value.specs.declared.value.Value.{Value}
use Rattle.sqlite_value.specs.declared.value.Value.TheVariants.{Int}
use Rattle.sqlite.specs.State.{State}
use Rattle.sqlite.specs.declared.transaction.Transaction.{Transaction}
use Rattle.sql_statements.specs.Edits.{Edit}
use Rattle.sql_statements.specs.Layouts.{Layout}
use Rattle.sql_statements.specs.Promises.{Runs}
use Rattle.sql_statements.specs.Transactions.{Makes}
use Rattle.desk_history.specs.declared.identity.Identity.{Identity}
use Rattle.desk_history.specs.Message.{Pair}
use Rattle.desk_book.specs.Book.{Book}
use Rattle.sql_tables.specs.Schema.{desk_schema}
use Rattle.sql_tables.specs.Layout.{Keeps, Sees}
use Rattle.sql_tables.specs.ByName.{IsStored}
use Rattle.sql_tables.specs.Tables.{Tables}
use Rattle.sql_migration.specs.FirstVersion.{first_schema, IsFirstStored, KeepsFirst}
use Rattle.sql_migration.specs.Migrated.{migrated, places_of, with_own_number}
use Rattle.sql_migration.specs.FirstHistory.{FirstStandsFor, StandsForFirst}

-- ---- sent entries are numbered

-- INSERT INTO numbers
abbrev pub put_number_edit : (place : ℕ) → Edit Tables
put_number_edit place = record { after = λ t. record t { numbers = with_own_number t.numbers place }; Tells = λ _. ⊤ }

abbrev pub number_entries_edit : Edit Tables
number_entries_edit = record { after = λ t. record t { numbers = fold with_own_number t.numbers (places_of t.entries) }; Tells = λ _. ⊤ }

-- the number from 0 on that a value is, else 0
abbrev pub number_or_zero : Value → ℕ
number_or_zero (Int (pos n)) = n
number_or_zero _ = 0

-- the number that a row of one column has
abbrev pub number_in : Row → ℕ
number_in [] = 0
number_in (v ∷ row) = number_or_zero v

-- ---- what the rows of a table are may be unknown

abbrev pub IsSeen : Trees → Option Tables → Type 0
IsSeen trees None = ⊤
IsSeen trees (Some t) = IsStored trees t

-- the schema is version 2's, whatever the rows are
abbrev pub seen_layout : Layout
seen_layout = record { Tables = Option Tables; schema = λ _. desk_schema; IsStored = IsSeen }

abbrev pub if_seen : Edit Tables → Edit (Option Tables)
if_seen edit = record { after = option_map edit.after; Tells = λ _. ⊤ }

module _ {S : Type 0} (g : Ghosts S) where
  -- Where it went well, this edit is made of the tables, if it is known what their rows are.
  abbrev pub EditsIfSeen : {A E : Type 0} → (old new : Transaction S) → Result A E → Edit Tables → Type 0
  EditsIfSeen old new result edit = Runs g old.conn new.conn result (Makes seen_layout (if_seen edit))

-- ---- before the transaction the tables are version 1's, and after it version 2's

pub data Version : Type 0 where
  First : Option Tables → Version
  Second : Option Tables → Version

abbrev pub version_schema : Version → Schema
version_schema (First o) = first_schema
version_schema (Second o) = desk_schema

abbrev pub IsFirstSeen : Trees → Option Tables → Type 0
IsFirstSeen trees None = ⊤
IsFirstSeen trees (Some t) = IsFirstStored trees t

abbrev pub IsStoredAs : Trees → Version → Type 0
IsStoredAs trees (First o) = IsFirstSeen trees o
IsStoredAs trees (Second o) = IsSeen trees o

abbrev pub migration_layout : Layout
migration_layout = record { Tables = Version; schema = version_schema; IsStored = IsStoredAs }

abbrev pub migrated_version : Version → Version
migrated_version (First o) = Second (option_map migrated o)
migrated_version (Second o) = Second o

abbrev pub IsFirst : Version → Type 0
IsFirst (First o) = ⊤
IsFirst (Second o) = ⊥

abbrev pub migration_edit : Edit Version
migration_edit = record { after = migrated_version; Tells = IsFirst }

-- ---- what is then said of the connection

-- The schema was version 1's, and is version 2's. Each book that they kept is seen, is committed, and is all that a
-- crash may leave. What stood for a history, but for the key `authorized` of its retries, stands for it so.
pub record HasMigrated (old new : State) : Type 0 where
  pub was_open : IsTrue old.is_open
  pub is_open : IsTrue new.is_open
  pub was_first : old.now.schema ≡ first_schema
  pub is_second : new.now.schema ≡ desk_schema
  pub tables : (t : Tables) → IsFirstStored old.now.trees t → IsStored new.now.trees (migrated t)
  pub sees : (b : Book) → KeepsFirst old.committed.trees b → Sees new b
  pub committed : new.committed ≡ new.now
  pub left : (trees : Trees) → new.may_leave trees → trees ≡ new.now.trees
  pub keeps : (b : Book) → KeepsFirst old.committed.trees b → (trees : Trees) → new.may_leave trees → Keeps trees b
  pub stands : (identity : Identity) (key : List ℕ) (H : List Pair) → FirstStandsFor old.committed.trees identity key H → StandsForFirst new identity key H

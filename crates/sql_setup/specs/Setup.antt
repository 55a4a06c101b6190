-- A blank database becomes a desk.
use Rattle.std.specs.Prelude.{◌≡◌, ◌≢◌, ⊤, ℕ, List, [], codes, Option, Some, None, IsTrue, IsSome}
use Rattle.sqlite_schema.specs.declared.schema.Schema.{Schema}
use Rattle.sqlite_schema.specs.Names.{table_named}
use Rattle.sqlite_trees.specs.Tree.{Trees}
use Rattle.sqlite_trees.specs.declared.store.Store.{Ghosts}
use Rattle.sqlite.specs.Held.{Held, state}
use Rattle.sqlite.specs.State.{State, IsUnchanged, Survives}
use Rattle.sql_statements.specs.Definitions.{IsBlank}
use Rattle.sql_statements.specs.Edits.{Edit}
use Rattle.sql_statements.specs.Layouts.{Layout, Holds}
use Rattle.sql_statements.specs.Promises.{GoesOn}
use Rattle.desk_history.specs.declared.identity.Identity.{Identity}
use Rattle.desk_book.specs.Book.{book_of}
use Rattle.sql_tables.specs.Schema.{desk_schema, schema_of}
use Rattle.sql_tables.specs.Layout.{desk_layout, Keeps, Sees}
use Rattle.sql_tables.specs.ByName.{IsStored}
use Rattle.sql_tables.specs.Tables.{Tables}
use Rattle.sql_setup.specs.declared.new_desk.NewRow.{NewRow}

-- it has the row of the desk, and nothing else
abbrev pub new_tables : Identity → (operator_key : List ℕ) → Tables
new_tables identity operator_key = record {
  desk = record { identity = identity; operator_key = operator_key; day = None };
  holidays = [];
  companies = [];
  submissions = [];
  entries = [];
  returns = [];
  changes = [];
  postings = [];
  suspense = [];
  files = [];
  taken = [];
  balances = [];
  numbers = [];
  authorizations = [];
}

-- these trees are tables of the book of the empty history
abbrev pub KeepsNewDesk : Identity → (operator_key : List ℕ) → Trees → Type 0
KeepsNewDesk identity operator_key trees = Keeps trees (book_of identity operator_key [])

-- a table has the name
abbrev pub HasDesk : Schema → Type 0
HasDesk schema = IsSome (table_named schema (codes "desk"))

-- ---- before its transaction there are no tables, and after it those of a desk

abbrev pub setup_schema : Option Tables → Schema
setup_schema None = schema_of []
setup_schema (Some t) = desk_schema

abbrev pub IsSetUp : Trees → Option Tables → Type 0
IsSetUp trees None = ⊤
IsSetUp trees (Some t) = IsStored trees t

abbrev pub setup_layout : Layout
setup_layout = record { Tables = Option Tables; schema = setup_schema; IsStored = IsSetUp }

abbrev pub new_desk_edit : Identity → (operator_key : List ℕ) → Edit (Option Tables)
new_desk_edit identity operator_key = record { after = λ _. Some (new_tables identity operator_key); Tells = λ t. t ≡ None }

-- ---- what its statements do

-- the schema is not a desk's, and nothing changes
abbrev pub FindsNoDesk : (old new : State) → Type 0
FindsNoDesk old new = (old.now.schema ≢ desk_schema) × IsUnchanged old new

-- the digits of its routing numbers are those of its identity
abbrev pub HasOwnDigits : NewRow → Type 0
HasOwnDigits row = (row.odfi ≡ row.identity.odfi) × (row.destination ≡ row.identity.destination)

-- The row is put into a desk's tables that have none. The transaction goes on.
abbrev pub PutsRow : NewRow → (old new : State) → Type 0
PutsRow row old new =
    (IsBlank desk_schema old.now → Holds desk_layout new.now (new_tables row.identity row.operator_key))
    × GoesOn old new

-- ---- what is then said of the connection

module _ {S : Type 0} (g : Ghosts S) where
  -- a crash leaves nothing that it could not leave before, but for these trees
  abbrev pub MayLeave : (old new : Held S) → (Leaves : Trees → Type 0) → Type 0
  MayLeave old new Leaves = Survives (state g old) (state g new) Leaves

-- It has a desk's tables with the book of the empty history. They are committed, and all that a crash may leave.
pub record HasNewDesk (identity : Identity) (operator_key : List ℕ) (old new : State) : Type 0 where
  pub was_open : IsTrue old.is_open
  pub is_open : IsTrue new.is_open
  pub tables : Holds desk_layout new.now (new_tables identity operator_key)
  pub sees : Sees new (book_of identity operator_key [])
  pub committed : new.committed ≡ new.now
  pub left : (trees : Trees) → new.may_leave trees → trees ≡ new.now.trees
  pub keeps : (trees : Trees) → new.may_leave trees → Keeps trees (book_of identity operator_key [])

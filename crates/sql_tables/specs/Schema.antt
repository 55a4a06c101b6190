-- The statements that make a desk's file, in their order, and the schema that they make.
use Rattle.std.specs.Prelude.{[], ◌∷◌, List, ℕ, ◌++◌, fold}
use Prim.Native.String.{String}
use Rattle.sqlite.specs.Change.{created, indexed}
use Rattle.sqlite.specs.Schema.{Schema}
use Rattle.sqlite.specs.Table.{Table}
use Rattle.sqlite_schema.specs.declared.schema.Index.{Index}
use Rattle.sql_tables.specs.DeskTables as the
use Rattle.sql_tables.specs.Description.{Description, create_text, table, index_text, index_on}

-- the text of a statement, and what it makes: a table, or an index of the table at this place of the schema
pub data Definition : Type 0 where
  NewTable : (text : List ℕ) → Table → Definition
  NewIndex : (text : List ℕ) → (at : ℕ) → (of : Table) → Index → Definition

abbrev pub text_of : Definition → List ℕ
text_of (NewTable text of) = text
text_of (NewIndex text at of index) = text

abbrev pub with_definition : Schema → Definition → Schema
with_definition schema (NewTable text of) = created schema of
with_definition schema (NewIndex text at of index) = indexed schema of index

-- the schema that these make in a blank file
abbrev pub schema_of : List Definition → Schema
schema_of definitions = fold with_definition (record { tables = []; indexes = []; views = [] }) definitions

abbrev pub new_table : {X : Type 0} → Description X → Definition
new_table d = NewTable (create_text d) (table d)

abbrev pub new_index : {X : Type 0} → (at : ℕ) → Description X → (name : String) → List String → Definition
new_index at d name columns = NewIndex (index_text d name columns) at (table d) (index_on d name columns)

-- what the first version has: an index is a hint for the engine, which changes no answer
abbrev pub first_definitions : List Definition
first_definitions =
    new_table the.desk
    ∷ new_table the.holidays
    ∷ new_table the.companies
    ∷ new_table the.submissions
    ∷ new_table the.entries
    ∷ new_table the.returns
    ∷ new_table the.changes
    ∷ new_table the.postings
    ∷ new_table the.suspense
    ∷ new_table the.files
    ∷ new_table the.taken
    ∷ new_table the.balances
    ∷ new_index 4 the.entries "entries_seq" ("seq" ∷ [])
    ∷ new_index 3 the.submissions "submissions_open" ("company" ∷ "settled" ∷ "lapsed" ∷ "ord" ∷ [])
    ∷ new_index 3 the.submissions "submissions_retries" ("company" ∷ "of_ref" ∷ [])
    ∷ new_index 5 the.returns "returns_company" ("company" ∷ "day" ∷ [])
    ∷ new_index 6 the.changes "changes_company" ("company" ∷ "no" ∷ [])
    ∷ new_index 7 the.postings "postings_account" ("account" ∷ "no" ∷ [])
    ∷ []

abbrev pub first_schema : Schema
first_schema = schema_of first_definitions

-- the second version adds two tables
abbrev pub desk_definitions : List Definition
desk_definitions = first_definitions ++ new_table the.sequences ∷ new_table the.authorizations ∷ []

abbrev pub desk_schema : Schema
desk_schema = schema_of desk_definitions

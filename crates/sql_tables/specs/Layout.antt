-- How the tables of a desk stand in its file, and which book they hold.
use Rattle.std.specs.Prelude.{◌≡◌}
use Rattle.sqlite_trees.specs.Tree.{Trees}
use Rattle.sqlite.specs.State.{State}
use Rattle.sql_statements.specs.Books.{keeps, holds}
use Rattle.sql_statements.specs.Layouts.{Layout}
use Rattle.desk_book.specs.Book.{Book}
use Rattle.sql_tables.specs.Schema.{desk_schema}
use Rattle.desk_store.specs.Rows.{Rows, flat_book}
use Rattle.sql_tables.specs.Beside.{Beside}
use Rattle.sql_tables.specs.Encodes.{Encodes}
use Rattle.sql_tables.specs.ByName.{IsStored}
use Rattle.sql_tables.specs.Tables.{Tables}

abbrev pub desk_layout : Layout
desk_layout = record { Tables = Tables; schema = λ _. desk_schema; IsStored = IsStored }

-- The tables are those of the flat rows that the book is. They may be two books': of a sequence that is used again
-- no table names the older entry.
pub record IsBookIn (t : Tables) (b : Book) : Type 0 where
  pub rows : Rows
  pub encodes : Encodes t rows
  pub beside : Beside t rows
  pub book : b ≡ flat_book rows

-- these trees are tables of the book
abbrev pub Keeps : Trees → Book → Type 0
Keeps = keeps desk_layout IsBookIn

-- an open connection sees tables of the book
abbrev pub Sees : State → Book → Type 0
Sees = holds desk_layout IsBookIn

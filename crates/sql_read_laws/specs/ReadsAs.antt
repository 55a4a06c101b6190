-- What is found in the stored tables of a book is what a read gives of the book.
use Rattle.std.specs.Prelude.{◌≡◌}
use Rattle.sql_statements.specs.Books.{Agrees}
use Rattle.desk_book.specs.Book.{Book}
use Rattle.sql_tables.specs.Layout.{desk_layout, IsBookIn}
use Rattle.sql_tables.specs.Tables.{Tables}

abbrev pub ReadsAs : {X : Type 0} → (found : Tables → X) → (read : Book → X) → Type 0
ReadsAs {X} found read = (x : X) → Agrees desk_layout IsBookIn (λ t. x ≡ found t) (λ b. x ≡ read b)

-- What is found in stored tables is a read of their book where it is one of their flat rows.
use Rattle.std.proofs.Common.{◌≡◌, sym, ap, ◌∙◌}
use Rattle.sqlite_trees.specs.Tree.{Trees}
use Rattle.desk_book.specs.Book.{Book}
use Rattle.desk_store.specs.Rows.{Rows, flat_book}
use Rattle.sql_tables.specs.Beside.{Beside}
use Rattle.sql_tables.specs.Encodes.{Encodes}
use Rattle.sql_tables.specs.ByName.{IsStored}
use Rattle.sql_tables.specs.Tables.{Tables}
use Rattle.sql_read_laws.specs.ReadsAs.{ReadsAs}

pub reads_as : {X : Type 0} (found : Tables → X) (read : Book → X) → ((trees : Trees) (t : Tables) (r : Rows) → IsStored trees t → Encodes t r → Beside t r → found t ≡ read (flat_book r)) → ReadsAs found read
reads_as found read of_rows x trees t b stored is told = told ∙ of_rows trees t is.rows stored is.encodes is.beside ∙ sym (ap read is.book)

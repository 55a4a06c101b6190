-- A cut's files stand among the others.
use Rattle.std.proofs.Common.{List, [], ◌∷◌, ◌++◌, refl, subst}
use Rattle.sql_statements.specs.Edits.{each_edit}
use Rattle.desk_book.specs.declared.flat_rows.FileRow.{FileRow}
use Rattle.desk_store.specs.Rows.{Rows}
use Rattle.sql_tables.specs.Description.{key_cmp}
use Rattle.sql_tables.specs.DeskTables as the
use Rattle.sql_tables.specs.TableEdits.{put_file_edit}
use Rattle.sql_tables.specs.Tables.{Tables}
use Rattle.sql_write_laws.proofs.Each.{AreOf, each_made, all_appended}
use Rattle.sql_write_laws.proofs.Independent.{independent, stand_with}
use Rattle.sql_write_laws.proofs.Inserted.{inserted_among}

abbrev with_file : FileRow → Rows → Rows
with_file f r = record r { files = r.files ++ f ∷ [] }

file_put : (f : FileRow) (t : Tables) (r : Rows) → AreOf t r → (put_file_edit f).Tells t → AreOf ((put_file_edit f).after t) (with_file f r)
file_put f t r are told =
    stand_with t r are (record (independent t r are) { files = record { table = _; rows = r.files ++ f ∷ []; is_of = inserted_among (key_cmp the.files) f r.files t.files are.0.files } })

pub files_put : (fs : List FileRow) (t : Tables) (r : Rows) → AreOf t r → (each_edit put_file_edit fs).Tells t → AreOf ((each_edit put_file_edit fs).after t) (record r { files = r.files ++ fs })
files_put fs t r are told =
    subst (AreOf ((each_edit put_file_edit fs).after t)) (all_appended (λ (xs : List FileRow). record r { files = xs }) (λ s f. with_file f s) (λ xs x. refl) r.files fs)
    (each_made put_file_edit with_file file_put fs t r are told)

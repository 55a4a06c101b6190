-- What the statements of an incoming file make of the tables, whose rows are numbered on from the last.
use Rattle.std.specs.Prelude.{List}
use Rattle.sql_statements.specs.Edits.{Edit}
use Rattle.desk_book.specs.declared.flat_rows.ChangedRow.{ChangedRow}
use Rattle.desk_book.specs.declared.flat_rows.ReturnedRow.{ReturnedRow}
use Rattle.desk_history.specs.declared.operations.SuspenseRow.{SuspenseRow}
use Rattle.sql_tables.specs.TableEdits.{put_return_edit, put_change_edit, put_suspense_edit, each_edit_on}
use Rattle.sql_tables.specs.Tables.{Tables}
use Rattle.sql_writes.specs.Numbering.{next_in}
use Rattle.sql_writes.specs.declared.numbering.NumberedTable.TheVariants as tables

-- each return
abbrev pub put_returns_edit : List ReturnedRow → Edit Tables
put_returns_edit = each_edit_on (next_in tables.Returns) put_return_edit

-- each notification of change
abbrev pub put_changes_edit : List ChangedRow → Edit Tables
put_changes_edit = each_edit_on (next_in tables.Changes) put_change_edit

-- each item in suspense
abbrev pub put_suspense_rows_edit : List SuspenseRow → Edit Tables
put_suspense_rows_edit = each_edit_on (next_in tables.Suspense) put_suspense_edit

use Rattle.sqlite.specs.Held.{state}
use Rattle.sql_statements.proofs.Edits.{makes_of}
use Rattle.sql_statements.proofs.Inside.{inside_as}
use Rattle.sql_tables.specs.Layout.{desk_layout}
use Rattle.sql_tables.specs.TableEdits.{put_file_edit}
use Rattle.sql_writes.proofs.FileInserts.{file_put}
use Rattle.sql_writes.proofs.cut.files.PutFilesRowBody.run_row.Goals as goal

pub returns : goal.returns
returns g c =
    inside_as g.S.Store
    (λ told clean.
    let old = state g.S.Store c.args.tx.now.conn.now in
    let new = state g.S.Store c.execute.new.tx.conn.now in
    let ran = rw (c.date.ensures, c.characters.ensures, c.blob.ensures, c.as_slice.ensures) at (told clean).ran in
    makes_of desk_layout (put_file_edit c.args.file.now) old new (told clean).shown (file_put c.args.file.now old new c.in_ok-execute.field-0 ran)) c.in_ok-execute.ensures

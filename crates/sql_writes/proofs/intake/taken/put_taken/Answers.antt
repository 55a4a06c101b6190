use Rattle.sqlite.specs.Held.{state}
use Rattle.sql_statements.proofs.Edits.{makes_of}
use Rattle.sql_statements.proofs.Inside.{inside_as}
use Rattle.sql_tables.specs.Layout.{desk_layout}
use Rattle.sql_tables.specs.TableEdits.{put_taken_edit}
use Rattle.sql_writes.proofs.TakenInserts.{taken_put}
use Rattle.sql_writes.proofs.intake.taken.put_taken.Goals as goal

pub returns : goal.returns
returns g c =
    inside_as g.S.Store
    (λ told clean.
    let f = c.args.file.now in
    let old = state g.S.Store c.args.tx.now.conn.now in
    let new = state g.S.Store c.execute.new.tx.conn.now in
    let ran = rw (c.characters.ensures, c.blob.ensures, c.date.ensures, c.in_ok-returns.ensures, c.in_ok-changes.ensures, c.in_ok-late.ensures, c.in_ok-suspense.ensures) at (told clean).ran in
    makes_of desk_layout (put_taken_edit f) old new (told clean).shown (taken_put f old new c.in_ok-execute.field-0 ran)) c.in_ok-execute.ensures

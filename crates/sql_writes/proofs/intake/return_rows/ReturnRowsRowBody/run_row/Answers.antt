use Rattle.sqlite.specs.Held.{state}
use Rattle.sql_statements.proofs.Edits.{makes_of}
use Rattle.sql_statements.proofs.Inside.{inside_as}
use Rattle.sql_tables.specs.Layout.{desk_layout}
use Rattle.sql_tables.specs.TableEdits.{put_return_edit}
use Rattle.sql_writes.proofs.ReturnInserts.{numbered_return, return_put}
use Rattle.sql_writes.proofs.intake.return_rows.ReturnRowsRowBody.run_row.Goals as goal

pub returns : goal.returns
returns g c =
    inside_as g.S.Store
    (λ told clean.
    let old = state g.S.Store c.args.tx.now.conn.now in
    let new = state g.S.Store c.execute.new.tx.conn.now in
    let ran = rw (c.values_of.ensures, c.in_ok-row.ensures) at (told clean).ran in
    makes_of desk_layout (put_return_edit c.args.number c.args.returned.now) old new (told clean).shown
    (return_put (numbered_return (c.args.number, c.args.returned.now)) old new c.in_ok-execute.field-0 ran)) c.in_ok-execute.ensures

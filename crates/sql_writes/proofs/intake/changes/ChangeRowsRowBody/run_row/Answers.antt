use Rattle.sqlite.specs.Held.{state}
use Rattle.sql_statements.proofs.Edits.{makes_of}
use Rattle.sql_statements.proofs.Inside.{inside_as}
use Rattle.sql_tables.specs.Encodes.{change_under}
use Rattle.sql_tables.specs.Layout.{desk_layout}
use Rattle.sql_tables.specs.TableEdits.{put_change_edit}
use Rattle.sql_writes.proofs.ChangeInserts.{change_put}
use Rattle.sql_writes.proofs.intake.changes.ChangeRowsRowBody.run_row.Goals as goal

pub returns : goal.returns
returns g c =
    inside_as g.S.Store
    (λ told clean.
    let x = c.args.changed.now in
    let old = state g.S.Store c.args.tx.now.conn.now in
    let new = state g.S.Store c.execute.new.tx.conn.now in
    let ran = rw (c.in_ok-number.ensures, c.characters.ensures, c.bytes.ensures.value, c.in_ok-order.ensures, c.in_ok-index.ensures, c.characters-2.ensures, c.date.ensures, c.characters-3.ensures) at (told clean).ran in
    makes_of desk_layout (put_change_edit c.args.number x) old new (told clean).shown (λ t h. (change_put (change_under c.args.number x) old new c.in_ok-execute.field-0 ran t h, tt))) c.in_ok-execute.ensures

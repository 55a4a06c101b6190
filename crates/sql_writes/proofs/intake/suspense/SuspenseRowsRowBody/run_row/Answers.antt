use Rattle.sqlite.specs.Held.{state}
use Rattle.sql_statements.proofs.Edits.{makes_of}
use Rattle.sql_statements.proofs.Inside.{inside_as}
use Rattle.sql_tables.specs.Layout.{desk_layout}
use Rattle.sql_tables.specs.TableEdits.{put_suspense_edit}
use Rattle.sql_writes.proofs.SuspenseInserts.{suspense_put}
use Rattle.sql_writes.proofs.intake.suspense.SuspenseRowsRowBody.run_row.Goals as goal

pub returns : goal.returns
returns g c =
    inside_as g.S.Store
    (λ told clean.
    let row = c.args.row.now in
    let old = state g.S.Store c.args.tx.now.conn.now in
    let new = state g.S.Store c.execute.new.tx.conn.now in
    let ran = rw (c.in_ok-number.ensures, c.characters.ensures, c.in_ok-item.ensures, c.reason.ensures, c.characters-2.ensures, c.characters-3.ensures, c.in_ok-cents.ensures, c.get.ensures.value, c.date.ensures) at (told clean).ran in
    makes_of desk_layout (put_suspense_edit c.args.number row) old new (told clean).shown (λ t h. (suspense_put (record { number = c.args.number; row = row }) old new c.in_ok-execute.field-0 ran t h, tt))) c.in_ok-execute.ensures

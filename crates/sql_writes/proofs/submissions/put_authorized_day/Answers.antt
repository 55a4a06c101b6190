use Rattle.sqlite.specs.Held.{state}
use Rattle.sql_statements.proofs.Edits.{makes_of}
use Rattle.sql_statements.proofs.Inside.{inside_as}
use Rattle.sql_tables.specs.Layout.{desk_layout}
use Rattle.std.proofs.Common.{Some}
use Rattle.sql_tables.specs.TableEdits.{put_authorization_edit}
use Rattle.sql_writes.proofs.SubmissionRows.{authorization_put}
use Rattle.sql_writes.proofs.submissions.put_authorized_day.Goals as goal

pub returns : goal.returns
returns g c =
    inside_as g.S.Store
    (λ told clean.
    let old = state g.S.Store c.args.tx.now.conn.now in
    let new = state g.S.Store c.execute.new.tx.conn.now in
    let shown = (told clean).shown in
    let count = c.in_ok-execute.field-0 in
    let ran = rw (c.characters.ensures, c.bytes.ensures.value, c.in_ok-order.ensures, c.date.ensures) at (told clean).ran in
    makes_of desk_layout (put_authorization_edit c.args.company.now c.args.order (Some c.args.day)) old new shown
    (λ t h. ((authorization_put (record { company = c.args.company.now; order = c.args.order; day = c.args.day }) old new count ran t h).0, tt))) c.in_ok-execute.ensures

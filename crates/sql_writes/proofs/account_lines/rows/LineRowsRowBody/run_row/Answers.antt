use Rattle.sqlite.specs.Held.{state}
use Rattle.sql_statements.proofs.Edits.{makes_of}
use Rattle.sql_statements.proofs.Inside.{inside_as}
use Rattle.sql_tables.specs.Layout.{desk_layout}
use Rattle.sql_writes.specs.LineEdits.{put_posting_edit}
use Rattle.sql_writes.proofs.PostingInserts.{numbered_line, posting_put}
use Rattle.sql_writes.proofs.account_lines.rows.LineRowsRowBody.run_row.Goals as goal

pub returns : goal.returns
returns g c =
    inside_as g.S.Store
    (λ told clean.
    let old = state g.S.Store c.args.tx.now.conn.now in
    let new = state g.S.Store c.execute.new.tx.conn.now in
    let ran = rw (c.values_of.ensures, c.in_ok-row.ensures) at (told clean).ran in
    makes_of desk_layout (put_posting_edit c.args.number c.args.line.now) old new (told clean).shown
    (λ t h. (posting_put (numbered_line (c.args.number, c.args.line.now)) old new c.in_ok-execute.field-0 ran t h, tt))) c.in_ok-execute.ensures

use Rattle.sqlite.specs.Held.{state}
use Rattle.sql_statements.proofs.Inside.{inside_as}
use Rattle.sql_setup.proofs.DeskRows.{desk_put}
use Rattle.sql_setup.proofs.new_desk.put_desk.Goals as goal

pub returns : goal.returns
returns g c =
    inside_as g.S.Store
    (λ told clean.
    let row = c.args.row.now in
    let ran = rw (c.number.ensures, c.number-2.ensures, c.requires.0, c.bytes.ensures.value, c.requires.1, c.bytes-2.ensures.value, c.blob.ensures) at (told clean).ran in
    (λ blank. desk_put row.identity row.operator_key (state g.S.Store c.args.tx.now.conn.now) (state g.S.Store c.execute.new.tx.conn.now) c.in_ok-execute.field-0 ran blank, (told clean).shown)) c.in_ok-execute.ensures

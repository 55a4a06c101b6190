use Rattle.sqlite.specs.Held.{state}
use Rattle.sql_statements.proofs.Edits.{makes_of}
use Rattle.sql_statements.proofs.Inside.{inside_as}
use Rattle.sql_tables.specs.Layout.{desk_layout}
use Rattle.sql_writes.specs.PlaceEdits.{insert_number_edit, number_record}
use Rattle.sql_writes.proofs.NumberRanges.{number_inserted}
use Rattle.sql_writes.proofs.cut.numbers.NumberRowsRowBody.run_row.Goals as goal

pub returns : goal.returns
returns g c =
    inside_as g.S.Store
    (λ told clean.
    let entry = c.args.entry.now in
    let old = state g.S.Store c.args.tx.now.conn.now in
    let new = state g.S.Store c.execute.new.tx.conn.now in
    let ran = rw (c.values_of.ensures, c.in_ok-row.ensures) at (told clean).ran in
    makes_of desk_layout (insert_number_edit c.args.place entry) old new (told clean).shown
    (λ t h. (number_inserted (number_record c.args.place entry) old new c.in_ok-execute.field-0 ran t h, tt))) c.in_ok-execute.ensures

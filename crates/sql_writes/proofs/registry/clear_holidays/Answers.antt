use Rattle.sqlite.specs.Held.{state}
use Rattle.sql_statements.proofs.Edits.{makes_of}
use Rattle.sql_statements.proofs.Inside.{inside_as}
use Rattle.sql_tables.specs.Layout.{desk_layout}
use Rattle.sql_writes.specs.HolidayEdits.{clear_holidays_edit}
use Rattle.sql_writes.proofs.Days.{holidays_cleared}
use Rattle.sql_writes.proofs.registry.clear_holidays.Goals as goal

pub returns : goal.returns
returns g c =
    inside_as g.S.Store
    (λ told clean.
    let old = state g.S.Store c.args.tx.now.conn.now in
    let new = state g.S.Store c.execute.new.tx.conn.now in
    let ran = (told clean).ran in
    let shown = (told clean).shown in
    let count = c.in_ok-execute.field-0 in
    makes_of desk_layout clear_holidays_edit old new shown (λ t h. (holidays_cleared old new count ran t h, tt))) c.in_ok-execute.ensures

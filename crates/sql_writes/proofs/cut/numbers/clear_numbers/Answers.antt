use Rattle.sqlite.specs.Held.{state}
use Rattle.sql_statements.proofs.Edits.{makes_of}
use Rattle.sql_statements.proofs.Inside.{inside_as}
use Rattle.sql_tables.specs.Layout.{desk_layout}
use Rattle.sql_writes.specs.PlaceEdits.{clear_numbers_edit}
use Rattle.sql_writes.proofs.NumberRanges.{numbers_cleared}
use Rattle.sql_writes.proofs.cut.numbers.clear_numbers.Goals as goal

pub returns : goal.returns
returns g c =
    inside_as g.S.Store
    (λ told clean.
    let old = state g.S.Store c.args.tx.now.conn.now in
    let new = state g.S.Store c.execute.new.tx.conn.now in
    let ran = rw (c.in_ok-first.ensures, c.in_ok-last.ensures) at (told clean).ran in
    makes_of desk_layout (clear_numbers_edit c.args.from c.args.to) old new (told clean).shown (numbers_cleared c.args.from c.args.to old new c.in_ok-execute.field-0 ran)) c.in_ok-execute.ensures

use Rattle.std.proofs.Common.{rules, ◌≡◌, map, ap, ◌∙◌}
use Rattle.sqlite.specs.Held.{state}
use Rattle.sqlite.specs.Values.{bound}
use Rattle.sql_statements.proofs.Edits.{makes_of}
use Rattle.sql_statements.proofs.Inside.{inside_as}
use Rattle.sql_statements.specs.Edits.{each_edit_from}
use Rattle.sql_tables.specs.Layout.{desk_layout}
use Rattle.sql_tables.specs.TableEdits.{put_return_edit}
use Rattle.sql_writes.specs.HeldRows.{held_from}
use Rattle.sql_writes.specs.ReturnRows.{held_return, stored_return}
use Rattle.sql_writes.proofs.ArrayLoops.{values_are}
use Rattle.sql_writes.proofs.ReturnInserts.{bound_returns, returns_put}
use Rattle.sql_writes.proofs.intake.return_rows.ReturnRowsBatchBody.run_batch.Goals as goal

pub returns : goal.returns
returns g c =
    inside_as g.S.Store
    (λ told clean.
    let first = c.args.first in
    let returned = c.args.returned.now in
    let old = state g.S.Store c.args.tx.now.conn.now in
    let new = state g.S.Store c.execute.new.tx.conn.now in
    let values = c.map-values.result in
    let are : map bound values ≡ map stored_return (held_from held_return first returned) = values_are stored_return c.in_ok-rows.rows c.each_ref.result values c.each_ref.ensures.items (search rules) (search rules) (λ i d e below. (c.map-values.ensures.items.at i d e below).2.met) ∙ ap (map stored_return) c.in_ok-rows.ensures in
    let ran = rw (c.as_flattened.ensures.value, bound_returns first returned values are) at (told clean).ran in
    makes_of desk_layout (each_edit_from put_return_edit first returned) old new (told clean).shown
    (returns_put first returned c.requires.many old new c.in_ok-execute.field-0 ran)) c.in_ok-execute.ensures

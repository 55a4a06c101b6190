use Rattle.std.proofs.Common.{rules, ◌≡◌, map, ap, ◌∙◌}
use Rattle.sqlite.specs.Held.{state}
use Rattle.sqlite.specs.Values.{bound}
use Rattle.sql_statements.proofs.Edits.{makes_of}
use Rattle.sql_statements.proofs.Inside.{inside_as}
use Rattle.sql_statements.specs.Edits.{each_edit_from}
use Rattle.sql_tables.specs.Layout.{desk_layout}
use Rattle.sql_tables.specs.TableEdits.{put_entry_edit}
use Rattle.sql_writes.specs.EntryEdits.{held_entry, stored_entry}
use Rattle.sql_writes.specs.HeldRows.{held_from}
use Rattle.sql_writes.proofs.ArrayLoops.{values_are}
use Rattle.sql_writes.proofs.EntryInserts.{bound_entries, entries_put}
use Rattle.sql_writes.proofs.entries.EntryRowsBatchBody.run_batch.Goals as goal

pub returns : goal.returns
returns g c =
    inside_as g.S.Store
    (λ told clean.
    let b = c.args.self.now in
    let first = c.args.first in
    let entries = c.args.entries.now in
    let old = state g.S.Store c.args.tx.now.conn.now in
    let new = state g.S.Store c.execute.new.tx.conn.now in
    let values = c.map-values.result in
    let are : map bound values ≡ map stored_entry (held_from (held_entry b.company b.order) first entries) = values_are stored_entry c.in_ok-rows.rows c.each_ref.result values c.each_ref.ensures.items (search rules) (search rules) (λ i d e below. (c.map-values.ensures.items.at i d e below).2.met) ∙ ap (map stored_entry) c.in_ok-rows.ensures in
    let ran = rw (c.as_flattened.ensures.value, bound_entries b.company b.order first entries values are) at (told clean).ran in
    makes_of desk_layout (each_edit_from (put_entry_edit b.company b.order) first entries) old new (told clean).shown
    (entries_put b.company b.order first entries c.requires.many old new c.in_ok-execute.field-0 ran)) c.in_ok-execute.ensures

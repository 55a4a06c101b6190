use Rattle.std.proofs.Common.{length, refl}
use Rattle.std.proofs.lemmas.Option.{slice_get_read}
use Rattle.sqlite.specs.Held.{state}
use Rattle.sql_statements.proofs.Edits.{makes_of}
use Rattle.sql_statements.proofs.Inside.{inside_as}
use Rattle.sql_statements.specs.Edits.{each_edit_from}
use Rattle.sql_tables.specs.Layout.{desk_layout}
use Rattle.sql_writes.specs.PlaceEdits.{mark_entry_edit}
use Rattle.sql_writes.proofs.EntryRuns.{marked_in_one}
use Rattle.sql_writes.proofs.cut.marks.mark_in_one.Goals as goal

pub returns : goal.returns
returns g c =
    inside_as g.S.Store
    (λ told clean.
    let run = c.args.run.now in
    let first = c.index-run-0.result in
    let old = state g.S.Store c.args.tx.now.conn.now in
    let new = state g.S.Store c.execute_all.new.tx.conn.now in
    let head = slice_get_read run (length run) 0 first refl c.requires.some c.index-run-0.is in
    let ran = rw (c.characters.ensures, c.bytes.ensures.value, c.in_ok-order.ensures, c.in_ok-span.ensures.added, c.in_ok-from.ensures, c.in_ok-to.ensures) at (told clean).ran in
    makes_of desk_layout (each_edit_from mark_entry_edit c.args.place run) old new (told clean).shown
    (marked_in_one first c.args.place c.in_ok-span.span.last run c.in_ok-span.ensures.last c.in_ok-span.ensures.room head c.requires.run old new ran)) c.in_ok-execute_all.ensures

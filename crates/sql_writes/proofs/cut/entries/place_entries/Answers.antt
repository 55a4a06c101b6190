use Rattle.std.proofs.Common.{rules, arith}
use Rattle.sqlite.specs.Held.{state}
use Rattle.sql_statements.specs.Edits.{each_edit_from}
use Rattle.sql_statements.proofs.Edits.{makes_both}
use Rattle.sql_tables.specs.Layout.{desk_layout}
use Rattle.sql_tables.specs.TableEdits.{place_edit}
use Rattle.sql_writes.specs.PlaceEdits.{mark_entry_edit, put_number_edit}
use Rattle.sql_writes.proofs.PlacedEntries.{entries_placed}
use Rattle.sql_writes.proofs.cut.entries.place_entries.Goals as goal

pub returns : goal.returns
returns g c = record {
  same_reference = search rules;
  makes = λ clean.
      let first = c.args.first in
      let entries = c.args.entries.now in
      let old = state g.S.Store c.args.tx.now.conn.now in
      let mid = state g.S.Store c.run_runs.new.tx.conn.now in
      let new = state g.S.Store c.run_runs-2.new.tx.conn.now in
      makes_both desk_layout (each_edit_from mark_entry_edit first entries) (each_edit_from put_number_edit first entries) (each_edit_from place_edit first entries) (entries_placed first entries) old mid new
      (c.in_ok-run_runs.ensures.makes (omega (arith, c.run_runs-2.ensures.survives.clean, clean))) (c.in_ok-run_runs-2.ensures.makes clean);
  keeps = search rules;
  survives = search rules;
}

use Rattle.std.proofs.Common.{rules, arith}
use Rattle.sqlite.specs.Held.{state}
use Rattle.sqlite.specs.State.{HasCleanDisk}
use Rattle.sql_statements.proofs.Edits.{makes_both, makes_told}
use Rattle.sql_statements.specs.Edits.{only_tells, each_edit_from}
use Rattle.sql_migration.specs.Migration.{put_number_edit, number_entries_edit, number_in, seen_layout, if_seen}
use Rattle.sql_migration.proofs.NumberInserts.{places_select, places_seen, ArePlaces, all_seen}
use Rattle.sql_migration.proofs.entries.number_entries.Goals as goal

pub returns : goal.returns
returns g c = record {
  same_reference = search rules;
  makes = λ clean.
      let old = state g.S.Store c.args.tx.now.conn.now in
      let mid = state g.S.Store c.query_inside.new.tx.conn.now in
      let new = state g.S.Store c.run_each.new.tx.conn.now in
      let before : HasCleanDisk mid = omega (arith, c.run_each.ensures.survives.clean, clean) in
      let rows = c.in_ok-rows.rows.items in
      let shown = rw (c.number.ensures) at (c.in_ok-rows.ensures.makes before places_select).0 in
      let found = makes_told seen_layout (ArePlaces rows) old mid (c.in_ok-rows.ensures.makes before places_select).1 (places_seen old mid rows shown) in
      makes_both seen_layout (only_tells (ArePlaces rows)) (each_edit_from (λ _ row. if_seen (put_number_edit (number_in row))) 1 rows) (if_seen number_entries_edit) (λ o are told. (all_seen rows o are, tt)) old mid new found
      (rw (c.deref.ensures.value) at (c.in_ok-run_each.ensures.makes clean));
  keeps = search rules;
  survives = search rules;
}

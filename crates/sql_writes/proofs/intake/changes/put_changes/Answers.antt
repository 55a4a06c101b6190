use Rattle.std.proofs.Common.{rules, arith}
use Rattle.sqlite.specs.Held.{state}
use Rattle.sql_tables.specs.TableEdits.{put_change_edit, next_number}
use Rattle.sql_writes.proofs.Numbered.{numbered_on}
use Rattle.sql_writes.proofs.intake.changes.put_changes.Goals as goal

pub returns : goal.returns
returns g c = record {
  same_reference = search rules;
  makes = λ clean.
      let old = state g.S.Store c.args.tx.now.conn.now in
      let mid = state g.S.Store c.next_after.new.tx.conn.now in
      let new = state g.S.Store c.run_each.new.tx.conn.now in
      numbered_on (λ t. next_number (λ c. c.number) t.changes) put_change_edit c.args.changed.now c.in_ok-first.first old mid new
      (c.in_ok-first.ensures.makes (omega (arith, c.run_each.ensures.survives.clean, clean))) (c.in_ok-run_each.ensures.makes clean);
  keeps = search rules;
  survives = search rules;
}

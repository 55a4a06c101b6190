use Rattle.std.proofs.Common.{rules, arith}
use Rattle.sqlite.specs.Held.{state}
use Rattle.sql_tables.specs.TableEdits.{put_suspense_edit, next_number}
use Rattle.sql_writes.proofs.Numbered.{numbered_on}
use Rattle.sql_writes.proofs.intake.suspense.put_suspense.Goals as goal

pub returns : goal.returns
returns g c = record {
  same_reference = search rules;
  makes = λ clean.
      let old = state g.S.Store c.args.tx.now.conn.now in
      let mid = state g.S.Store c.next_after.new.tx.conn.now in
      let new = state g.S.Store c.run_each.new.tx.conn.now in
      numbered_on (λ t. next_number (λ s. s.number) t.suspense) put_suspense_edit c.args.suspense.now c.in_ok-first.first old mid new
      (c.in_ok-first.ensures.makes (omega (arith, c.run_each.ensures.survives.clean, clean))) (c.in_ok-run_each.ensures.makes clean);
  keeps = search rules;
  survives = search rules;
}

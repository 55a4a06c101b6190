use Rattle.std.proofs.Common.{rules, arith}
use Rattle.sqlite.specs.Held.{state}
use Rattle.sql_tables.specs.TableEdits.{put_return_edit, next_number}
use Rattle.sql_writes.proofs.Numbered.{numbered_on}
use Rattle.sql_writes.proofs.intake.returns.put_returns.Goals as goal

pub returns : goal.returns
returns g c = record {
  same_reference = search rules;
  makes = λ clean.
      let old = state g.S.Store c.args.tx.now.conn.now in
      let mid = state g.S.Store c.next_after.new.tx.conn.now in
      let new = state g.S.Store c.run_batches.new.tx.conn.now in
      numbered_on (λ t. next_number (λ r. r.number) t.returns) put_return_edit c.args.returned.now c.in_ok-first.first old mid new
      (c.in_ok-first.ensures.makes (omega (arith, c.run_batches.ensures.survives.clean, clean))) (c.in_ok-run_batches.ensures.makes clean);
  keeps = search rules;
  survives = search rules;
}

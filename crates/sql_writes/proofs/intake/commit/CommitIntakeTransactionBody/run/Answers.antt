use Rattle.std.proofs.Common.{rules, arith}
use Rattle.sqlite.specs.Held.{state}
use Rattle.sql_statements.proofs.Edits.{makes_then}
use Rattle.sql_statements.specs.Edits.{then_edit}
use Rattle.sql_tables.specs.Layout.{desk_layout}
use Rattle.sql_tables.specs.TableEdits.{put_return_edit, put_change_edit, put_suspense_edit, put_lines_edit, put_taken_edit, each_edit_on, next_number}
use Rattle.sql_writes.proofs.intake.commit.CommitIntakeTransactionBody.run.Goals as goal

pub returns : goal.returns
returns g c = record {
  same_reference = search rules;
  makes = λ clean.
      let x = c.args.self.now.rows in
      let s0 = state g.S.Store c.args.tx.now.conn.now in
      let s1 = state g.S.Store c.put_returns.new.tx.conn.now in
      let s2 = state g.S.Store c.put_changes.new.tx.conn.now in
      let s3 = state g.S.Store c.put_suspense.new.tx.conn.now in
      let s4 = state g.S.Store c.put_lines.new.tx.conn.now in
      let s5 = state g.S.Store c.put_taken.new.tx.conn.now in
      let returned = each_edit_on (λ t. next_number (λ r. r.number) t.returns) put_return_edit x.returned.now in
      let changed = each_edit_on (λ t. next_number (λ r. r.number) t.changes) put_change_edit x.changed.now in
      let suspense = each_edit_on (λ t. next_number (λ s. s.number) t.suspense) put_suspense_edit x.suspense.now in
      let lines = put_lines_edit x.postings.now in
      let file = put_taken_edit x.file in
      makes_then desk_layout returned (then_edit changed (then_edit suspense (then_edit lines file))) s0 s1 s5
      (c.in_ok-put_returns.ensures.makes (omega (arith, c.put_changes.ensures.survives.clean, c.put_suspense.ensures.survives.clean, c.put_lines.ensures.survives.clean, c.put_taken.ensures.survives.clean, clean)))
      (makes_then desk_layout changed (then_edit suspense (then_edit lines file)) s1 s2 s5
      (c.in_ok-put_changes.ensures.makes (omega (arith, c.put_suspense.ensures.survives.clean, c.put_lines.ensures.survives.clean, c.put_taken.ensures.survives.clean, clean)))
      (makes_then desk_layout suspense (then_edit lines file) s2 s3 s5
      (c.in_ok-put_suspense.ensures.makes (omega (arith, c.put_lines.ensures.survives.clean, c.put_taken.ensures.survives.clean, clean)))
      (makes_then desk_layout lines file s3 s4 s5
      (c.in_ok-put_lines.ensures.makes (omega (arith, c.put_taken.ensures.survives.clean, clean)))
      (c.in_ok-put_taken.ensures.makes clean))));
  keeps = search rules;
  survives = search rules;
}

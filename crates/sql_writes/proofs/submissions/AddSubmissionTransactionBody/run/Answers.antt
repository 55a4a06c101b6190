use Rattle.std.proofs.Common.{rules, arith, option_and_then}
use Rattle.sqlite.specs.Held.{state}
use Rattle.sql_statements.proofs.Edits.{makes_then}
use Rattle.sql_statements.specs.Edits.{then_edit, each_edit_from}
use Rattle.sql_tables.specs.Layout.{desk_layout}
use Rattle.sql_tables.specs.TableEdits.{put_submission_edit, put_entry_edit, put_authorization_edit}
use Rattle.sql_writes.proofs.submissions.AddSubmissionTransactionBody.run.Goals as goal

pub returns : goal.returns
returns g c = record {
  same_reference = search rules;
  makes = λ clean.
      let b = c.args.self.now in
      let s0 = state g.S.Store c.args.tx.now.conn.now in
      let s1 = state g.S.Store c.put_submission.new.tx.conn.now in
      let s2 = state g.S.Store c.run_batches.new.tx.conn.now in
      let s3 = state g.S.Store c.put_authorization.new.tx.conn.now in
      let entries = each_edit_from (put_entry_edit b.company b.order) 1 b.content.now.entries in
      let authorized = put_authorization_edit b.company b.order (option_and_then (λ r. r.authorized) b.retry) in
      let first = rw (c.submission-content.ensures.value) at (c.in_ok-put_submission.ensures.makes (omega (arith, c.run_batches.ensures.survives.clean, c.put_authorization.ensures.survives.clean, clean))) in
      let second = rw (c.as_slice.ensures.value, c.submission-content.ensures.value) at (c.in_ok-run_batches.ensures.makes (omega (arith, c.put_authorization.ensures.survives.clean, clean))) in
      let third = rw (c.authorized_by.ensures) at (c.in_ok-put_authorization.ensures.makes clean) in
      makes_then desk_layout (put_submission_edit b.company b.order b.content.now b.retry) (then_edit entries authorized) s0 s1 s3 first (makes_then desk_layout entries authorized s1 s2 s3 second third);
  keeps = search rules;
  survives = search rules;
}

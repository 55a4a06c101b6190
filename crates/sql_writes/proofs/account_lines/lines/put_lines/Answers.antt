use Rattle.std.proofs.Common.{rules, arith}
use Rattle.sqlite.specs.Held.{state}
use Rattle.sqlite.specs.State.{HasCleanDisk}
use Rattle.sql_tables.specs.TableEdits.{put_line_edit}
use Rattle.sql_writes.specs.Numbering.{next_in}
use Rattle.sql_writes.specs.declared.numbering.NumberedTable.TheVariants as tables
use Rattle.sql_writes.proofs.JoinedLines.{lines_made}
use Rattle.sql_writes.proofs.Numbered.{numbered_on}
use Rattle.sql_writes.proofs.account_lines.lines.put_lines.Goals as goal

pub returns : goal.returns
returns g c = record {
  same_reference = search rules;
  makes = λ clean.
      let s0 = state g.S.Store c.args.tx.now.conn.now in
      let s1 = state g.S.Store c.next_after.new.tx.conn.now in
      let s2 = state g.S.Store c.run_batches.new.tx.conn.now in
      let s3 = state g.S.Store c.add_lines.new.tx.conn.now in
      let clean2 : HasCleanDisk s2 = omega (arith, c.add_lines.ensures.survives.clean, clean) in
      numbered_on (next_in tables.Postings) put_line_edit c.args.lines.now c.in_ok-first.first s0 s1 s3 (c.in_ok-first.ensures.makes (omega (arith, c.run_batches.ensures.survives.clean, clean2)))
      (lines_made c.in_ok-first.first c.args.lines.now s1 s2 s3 (c.in_ok-run_batches.ensures.makes clean2) (c.in_ok-add_lines.ensures.makes clean));
  keeps = search rules;
  survives = search rules;
}

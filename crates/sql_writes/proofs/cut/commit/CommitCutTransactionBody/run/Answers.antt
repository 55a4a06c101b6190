use Rattle.std.proofs.Common.{rules, arith, subst}
use Rattle.sqlite.specs.Held.{state}
use Rattle.sqlite.specs.State.{HasCleanDisk}
use Rattle.sql_statements.proofs.Edits.{makes_then, unnumbered}
use Rattle.sql_statements.specs.Edits.{then_edit, each_edit, each_edit_from}
use Rattle.sql_statements.specs.Transactions.{Makes}
use Rattle.sql_tables.specs.Layout.{desk_layout}
use Rattle.sql_tables.specs.TableEdits.{send_edit, lapse_edit, place_edit, put_lines_edit, put_file_edit}
use Rattle.sql_writes.proofs.cut.commit.CommitCutTransactionBody.run.Goals as goal

pub returns : goal.returns
returns g c = record {
  same_reference = search rules;
  makes = λ clean.
      let b = c.args.self.now in
      let s0 = state g.S.Store c.args.tx.now.conn.now in
      let s1 = state g.S.Store c.run_runs.new.tx.conn.now in
      let s2 = state g.S.Store c.run_each.new.tx.conn.now in
      let s3 = state g.S.Store c.place_entries.new.tx.conn.now in
      let s4 = state g.S.Store c.put_lines.new.tx.conn.now in
      let s5 = state g.S.Store c.run_each-2.new.tx.conn.now in
      let sent = each_edit send_edit b.cut.sent.now in
      let lapsed = each_edit lapse_edit b.cut.lapsed.now in
      let placed = each_edit_from place_edit b.first b.cut.entries.now in
      let lines = put_lines_edit b.cut.postings.now in
      let files = each_edit put_file_edit b.cut.files.now in
      let clean4 : HasCleanDisk s4 = omega (arith, c.run_each-2.ensures.survives.clean, clean) in
      let clean3 : HasCleanDisk s3 = omega (arith, c.put_lines.ensures.survives.clean, clean4) in
      let clean2 : HasCleanDisk s2 = omega (arith, c.place_entries.ensures.survives.clean, clean3) in
      let clean1 : HasCleanDisk s1 = omega (arith, c.run_each.ensures.survives.clean, clean2) in
      makes_then desk_layout sent (then_edit lapsed (then_edit placed (then_edit lines files))) s0 s1 s5 (subst (λ e. Makes desk_layout e s0 s1) (unnumbered desk_layout send_edit 1 b.cut.sent.now) (c.in_ok-run_runs.ensures.makes clean1))
      (makes_then desk_layout lapsed (then_edit placed (then_edit lines files)) s1 s2 s5 (subst (λ e. Makes desk_layout e s1 s2) (unnumbered desk_layout lapse_edit 1 b.cut.lapsed.now) (c.in_ok-run_each.ensures.makes clean2))
      (makes_then desk_layout placed (then_edit lines files) s2 s3 s5 (c.in_ok-place_entries.ensures.makes clean3)
      (makes_then desk_layout lines files s3 s4 s5 (c.in_ok-put_lines.ensures.makes clean4) (subst (λ e. Makes desk_layout e s4 s5) (unnumbered desk_layout put_file_edit 1 b.cut.files.now) (c.in_ok-run_each-2.ensures.makes clean)))));
  keeps = search rules;
  survives = search rules;
}

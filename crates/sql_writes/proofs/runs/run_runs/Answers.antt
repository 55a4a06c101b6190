use Rattle.std.proofs.Common.{rules, [], arith}
use Rattle.sqlite.specs.Held.{state}
use Rattle.sqlite.specs.State.{HasCleanDisk}
use Rattle.sql_statements.proofs.Edits.{makes_none}
use Rattle.sql_writes.proofs.ManyEdits.{more_made, all_made}
use Rattle.sql_writes.proofs.RunLists.{none_left}
use Rattle.sql_writes.proofs.runs.run_runs.Goals as goal

pub runs-init : goal.runs-init
runs-init g c = record {
  same = search rules;
  made = record { done = []; are = search rules; at = search rules; makes = λ clean. makes_none g.B.RunBody.layout (state g.S.Store c.args.tx.now.conn.now) };
  keeps = search rules;
  survives = search rules;
}

pub runs-preserved : goal.runs-preserved
runs-preserved g c =
    let mid = state g.S.Store c.runs.tx.conn.now in
    let now = state g.S.Store c.run_rows.new.tx.conn.now in
    let clean_before : HasCleanDisk now → HasCleanDisk mid = λ clean. omega (arith, c.run_rows.ensures.survives.clean, clean) in
    record {
      same = search rules;
      made = more_made g.B.RunBody.layout (g.B.RunBody.edit c.args.body.now) c.args.first c.args.rows.now (state g.S.Store c.args.tx.now.conn.now) mid now c.runs.number c.runs.rest.now c.runs.invariant.made clean_before
          c.in-Some.next c.split_at.result.0.now c.split_at.result.1.now (search rules) (search rules) c.in_ok-run_rows.ensures.makes;
      keeps = search rules;
      survives = search rules;
    }

pub returns : goal.returns
returns g c = record {
  same_reference = search rules;
  makes =
      all_made g.B.RunBody.layout (g.B.RunBody.edit c.args.body.now) c.args.first c.args.rows.now (state g.S.Store c.args.tx.now.conn.now) (state g.S.Store c.runs.tx.conn.now) c.runs.number c.runs.rest.now c.runs.invariant.made
      (none_left c.runs.rest.now (search rules));
  keeps = search rules;
  survives = search rules;
}

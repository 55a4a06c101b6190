use Rattle.std.proofs.Common.{rules, ◌≡◌, ◌+◌, [], length, arith}
use Rattle.sqlite.specs.Held.{state}
use Rattle.sqlite.specs.State.{HasCleanDisk}
use Rattle.sql_statements.proofs.Edits.{makes_none}
use Rattle.sql_writes.proofs.ManyEdits.{more_made, rest_made}
use Rattle.sql_writes.proofs.batches.run_batches.Goals as goal

pub batches-init : goal.batches-init
batches-init g c = record {
  same = search rules;
  made = record { done = []; are = search rules; at = search rules; makes = λ clean. makes_none g.B.RowBody.layout (state g.S.Store c.args.tx.now.conn.now) };
  keeps = search rules;
  survives = search rules;
}

pub batches-preserved : goal.batches-preserved
batches-preserved g c =
    let mid = state g.S.Store c.batches.tx.conn.now in
    let now = state g.S.Store c.run_batch.new.tx.conn.now in
    let batch = c.split_at.result.0.now in
    let long : length batch ≡ 16 = search rules in
    let next : c.in-Some.next ≡ c.batches.number + 16 = search rules in
    let clean_before : HasCleanDisk now → HasCleanDisk mid = λ clean. omega (arith, c.run_batch.ensures.survives.clean, clean) in
    record {
      same = search rules;
      made = more_made g.B.RowBody.layout (g.B.RowBody.edit c.args.body.now) c.args.first c.args.rows.now (state g.S.Store c.args.tx.now.conn.now) mid now c.batches.number c.batches.rest.now c.batches.invariant.made clean_before
          c.in-Some.next batch c.split_at.result.1.now (search rules) (omega (arith, next, long)) c.in_ok-run_batch.ensures.makes;
      keeps = search rules;
      survives = search rules;
    }

pub returns : goal.returns
returns g c =
    let mid = state g.S.Store c.batches.tx.conn.now in
    let now = state g.S.Store c.run_each.new.tx.conn.now in
    let clean_before : HasCleanDisk now → HasCleanDisk mid = λ clean. omega (arith, c.run_each.ensures.survives.clean, clean) in
    record {
      same_reference = search rules;
      makes = λ clean.
          rest_made g.B.RowBody.layout (g.B.RowBody.edit c.args.body.now) c.args.first c.args.rows.now (state g.S.Store c.args.tx.now.conn.now) mid now c.batches.number c.batches.rest.now c.batches.invariant.made clean_before
          clean (c.in_ok-run_each.ensures.makes clean);
      keeps = search rules;
      survives = search rules;
    }

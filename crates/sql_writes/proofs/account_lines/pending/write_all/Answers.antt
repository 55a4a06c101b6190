use Rattle.std.proofs.Common.{rules, arith}
use Rattle.sqlite.specs.Held.{state}
use Rattle.sql_writes.proofs.PendingSums.{but_same, but_then}
use Rattle.sql_writes.proofs.account_lines.pending.write_all.Goals as goal

pub writes-init : goal.writes-init
writes-init g c =
    let start = state g.S.Store c.args.tx.now.conn.now in
    record {
      same = search rules;
      made = λ clean. but_same c.args.pending.now.items c.args.pending.now.items (λ balances. balances) start (λ rows balances stands. stands);
      keeps = search rules;
      survives = search rules;
    }

pub writes-preserved : goal.writes-preserved
writes-preserved g c =
    let start = state g.S.Store c.args.tx.now.conn.now in
    let mid = state g.S.Store c.writes.tx.conn.now in
    let now = state g.S.Store c.write_last.new.tx.conn.now in
    record {
      same = search rules;
      made = λ clean.
          but_then c.args.pending.now.items c.writes.pending.items c.write_last.new.pending.items (λ balances. balances) (λ balances. balances) start mid now
          (c.writes.invariant.made (omega (arith, c.write_last.ensures.runs.survives.clean, clean))) (c.in_ok-write_last.ensures.runs.makes clean);
      keeps = search rules;
      survives = search rules;
    }

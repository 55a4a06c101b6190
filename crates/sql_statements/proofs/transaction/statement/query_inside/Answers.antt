use Rattle.std.proofs.Common.{rules, arith, ◌∙◌}
use Rattle.sqlite.specs.Held.{state}
use Rattle.sqlite.specs.State.{HasCleanDisk}
use Rattle.sqlite.specs.Values.{bound}
use Rattle.sql_statements.proofs.SelectTexts.{select_returns_none}
use Rattle.sql_statements.proofs.QueriesInside.{kept_after, shown_after, shown_keeps, fails_keeps, shown_leaves}
use Rattle.sql_statements.proofs.transaction.statement.query_inside.Goals as goal

pub returns-in_err-rows : goal.returns-in_err-rows
returns-in_err-rows g c = record {
  same_reference = search rules;
  makes = search rules;
  keeps = λ clean.
      let old = state g.S.Store c.args.tx.now.conn.now in
      let mid = state g.S.Store c.check_live.new.tx.conn.now in
      let new = state g.S.Store c.query_all.new.self.conn.now in
      let before : HasCleanDisk mid = omega (arith, c.query_all.ensures.survives.clean, clean) in
      kept_after old mid new (c.in_ok-check_live.ensures.makes before).1 (fails_keeps c.args.sql.now (bound c.args.params.now) mid new _ (c.in_err-rows.ensures.err clean));
  survives = search rules;
}

pub returns : goal.returns
returns g c =
    let old = state g.S.Store c.args.tx.now.conn.now in
    let mid = state g.S.Store c.check_live.new.tx.conn.now in
    let new = state g.S.Store c.query_all.new.self.conn.now in
    let before : HasCleanDisk new → HasCleanDisk mid = λ clean. omega (arith, c.query_all.ensures.survives.clean, clean) in
    record {
      same_reference = search rules;
      makes = λ clean select.
          let live = c.in_ok-check_live.ensures.makes (before clean) in
          let bare = select_returns_none c.args.sql.now select in
          let shown = c.in_ok-rows.ensures.ok clean in (
            shown_after c.args.sql.now (bound c.args.params.now) old mid new _ bare live.1 shown,
            shown_leaves c.args.sql.now (bound c.args.params.now) old mid new _ bare live.0 live.1 shown,
          );
      keeps = λ clean.
          let live = c.in_ok-check_live.ensures.makes (before clean) in
          kept_after old mid new live.1 (shown_keeps c.args.sql.now (bound c.args.params.now) mid new _ (live.1.0.mode ∙ live.0) (c.in_ok-rows.ensures.ok clean));
      survives = search rules;
    }

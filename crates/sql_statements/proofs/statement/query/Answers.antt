use Rattle.std.proofs.Common.{rules}
use Rattle.sqlite.specs.Held.{state}
use Rattle.sqlite.specs.Values.{bound}
use Rattle.sqlite.proofs.StateLemmas.{survives_weaker}
use Rattle.sql_statements.proofs.Queries.{shown_open, fails_open, shown_same, fails_same, stays_unchanged, stays_rolled_back, commits_nothing}
use Rattle.sql_statements.proofs.SelectTexts.{select_returns_none}
use Rattle.sql_statements.proofs.statement.query.Goals as goal

pub returns-in_err-rows-clause-stays : goal.returns-in_err-rows-clause-stays
returns-in_err-rows-clause-stays g c select clean =
    stays_rolled_back (state g.S.Store c.args.conn.now) (state g.S.Store c.query_all.new.self) (search rules)
    (fails_same c.args.sql.now (bound c.args.params.now) _ _ c.in_err-rows.field-0.0 (select_returns_none c.args.sql.now select) (c.in_err-rows.ensures.err clean))

pub returns-in_err-rows-clause-survives : goal.returns-in_err-rows-clause-survives
returns-in_err-rows-clause-survives g c select =
    survives_weaker (state g.S.Store c.args.conn.now) (state g.S.Store c.query_all.new.self) _ _ (λ clean db writes. commits_nothing c.args.sql.now (bound c.args.params.now) (state g.S.Store c.args.conn.now) db (select_returns_none c.args.sql.now select) writes) c.query_all.ensures.survives

pub returns-clause-stays : goal.returns-clause-stays
returns-clause-stays g c select clean =
    stays_unchanged (state g.S.Store c.args.conn.now) (state g.S.Store c.query_all.new.self) (shown_same c.args.sql.now (bound c.args.params.now) _ _ c.in_ok-rows.rows.items (select_returns_none c.args.sql.now select) (c.in_ok-rows.ensures.ok clean))

pub returns-clause-survives : goal.returns-clause-survives
returns-clause-survives g c select =
    survives_weaker (state g.S.Store c.args.conn.now) (state g.S.Store c.query_all.new.self) _ _ (λ clean db writes. commits_nothing c.args.sql.now (bound c.args.params.now) (state g.S.Store c.args.conn.now) db (select_returns_none c.args.sql.now select) writes) c.query_all.ensures.survives

pub returns-in_err-rows-clause-was_open : goal.returns-in_err-rows-clause-was_open
returns-in_err-rows-clause-was_open g c clean =
    fails_open c.args.sql.now (bound c.args.params.now) (state g.S.Store c.args.conn.now) (state g.S.Store c.query_all.new.self) c.in_err-rows.field-0.0 (c.in_err-rows.ensures.err clean)

pub returns-clause-was_open : goal.returns-clause-was_open
returns-clause-was_open g c clean is_open =
    shown_open c.args.sql.now (bound c.args.params.now) (state g.S.Store c.args.conn.now) (state g.S.Store c.query_all.new.self) c.in_ok-rows.rows.items (c.in_ok-rows.ensures.ok clean)

pub returns-clause-shown : goal.returns-clause-shown
returns-clause-shown g c clean =
    (shown_open c.args.sql.now (bound c.args.params.now) (state g.S.Store c.args.conn.now) (state g.S.Store c.query_all.new.self) c.in_ok-rows.rows.items (c.in_ok-rows.ensures.ok clean), c.in_ok-rows.ensures.ok clean)

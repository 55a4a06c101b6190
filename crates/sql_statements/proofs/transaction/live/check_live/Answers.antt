use Rattle.sqlite.specs.Held.{state}
use Rattle.sql_statements.proofs.EmptyText.{nothing_changes}
use Rattle.sql_statements.proofs.Inside.{inside_as}
use Rattle.sql_statements.proofs.transaction.live.check_live.Goals as goal

pub returns : goal.returns
returns g c =
    inside_as g.S.Store
    (λ told clean.
    let it = told clean in
    (it.inside, nothing_changes _ (state g.S.Store c.args.tx.now.conn.now) (state g.S.Store c.execute.new.tx.conn.now) _ it.ran)) c.in_ok-execute.ensures

use Rattle.std.proofs.Common.{◌≡◌, length}
use Rattle.sqlite.specs.Held.{state}
use Rattle.sqlite.specs.State.{HasCleanDisk, Survives, KeepsCommit}
use Rattle.sql_writes.proofs.ManyEdits.{MadeBefore}
use Rattle.sql_writes.proofs.runs.run_runs.Given as goal

-- the rows before those that are left are made
abbrev pub invariant-runs : goal.invariant-runs
invariant-runs g l =
    let start = state g.S.Store l.fn.tx.conn.now in
    let now = state g.S.Store l.tx.conn.now in
    record {
      same : l.tx.conn.ghost_name ≡ l.fn.tx.conn.ghost_name;
      made : MadeBefore g.B.RunBody.layout (g.B.RunBody.edit l.body) l.first l.rows start now l.number l.rest;
      keeps : HasCleanDisk now → KeepsCommit start now;
      survives : Survives start now (λ _. ⊥);
    }

abbrev pub decreases-runs : goal.decreases-runs
decreases-runs g l = length l.rest

use Rattle.std.proofs.Common.{◌≡◌, length}
use Rattle.sqlite.specs.Held.{state}
use Rattle.sqlite.specs.State.{HasCleanDisk, Survives, KeepsCommit}
use Rattle.sql_writes.proofs.ManyEdits.{MadeBefore}
use Rattle.sql_writes.proofs.batches.run_batches.Given as goal

-- the rows before those that are left are made
abbrev pub invariant-batches : goal.invariant-batches
invariant-batches g l =
    let start = state g.S.Store l.fn.tx.conn.now in
    let now = state g.S.Store l.tx.conn.now in
    record {
      same : l.tx.conn.ghost_name ≡ l.fn.tx.conn.ghost_name;
      made : MadeBefore g.B.RowBody.layout (g.B.RowBody.edit l.body) l.first l.rows start now l.number l.rest;
      keeps : HasCleanDisk now → KeepsCommit start now;
      survives : Survives start now (λ _. ⊥);
    }

abbrev pub decreases-batches : goal.decreases-batches
decreases-batches g l = length l.rest

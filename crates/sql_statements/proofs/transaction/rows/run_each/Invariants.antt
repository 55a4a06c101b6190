use Rattle.std.proofs.Common.{◌≡◌, take, ◌+◌}
use Rattle.sqlite.specs.Held.{state}
use Rattle.sqlite.specs.State.{HasCleanDisk, Survives, KeepsCommit}
use Rattle.sql_statements.specs.Edits.{each_edit_from}
use Rattle.sql_statements.specs.Transactions.{Makes}
use Rattle.sql_statements.proofs.transaction.rows.run_each.Given as goal

-- the rows so far are made
abbrev pub invariant-loop-row : goal.invariant-loop-row
invariant-loop-row g l =
    let start = state g.S.Store l.fn.tx.conn.now in
    let now = state g.S.Store l.tx.conn.now in
    record {
      same : l.tx.conn.ghost_name ≡ l.fn.tx.conn.ghost_name;
      at : l.number ≡ l.first + l.row-index;
      made : HasCleanDisk now → Makes g.B.RowBody.layout (each_edit_from (g.B.RowBody.edit l.body) l.first (take l.row-index l.rows)) start now;
      keeps : HasCleanDisk now → KeepsCommit start now;
      survives : Survives start now (λ _. ⊥);
    }

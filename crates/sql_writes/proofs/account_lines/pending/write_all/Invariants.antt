use Rattle.std.proofs.Common.{◌≡◌, length}
use Rattle.sqlite.specs.Held.{state}
use Rattle.sqlite.specs.State.{HasCleanDisk, Survives, KeepsCommit}
use Rattle.sql_writes.specs.PendingBalances.{MakesBut}
use Rattle.sql_writes.proofs.account_lines.pending.write_all.Given as goal

-- those that are pending no more are written
abbrev pub invariant-writes : goal.invariant-writes
invariant-writes g l =
    let start = state g.S.Store l.fn.tx.conn.now in
    let now = state g.S.Store l.tx.conn.now in
    record {
      same : l.tx.conn.ghost_name ≡ l.fn.tx.conn.ghost_name;
      made : HasCleanDisk now → MakesBut l.fn.pending.items l.pending.items (λ balances. balances) start now;
      keeps : HasCleanDisk now → KeepsCommit start now;
      survives : Survives start now (λ _. ⊥);
    }

abbrev pub decreases-writes : goal.decreases-writes
decreases-writes g l = length l.pending.items

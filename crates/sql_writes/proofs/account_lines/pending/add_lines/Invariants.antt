use Rattle.std.proofs.Common.{◌≡◌, take, []}
use Rattle.sqlite.specs.Held.{state}
use Rattle.sqlite.specs.State.{HasCleanDisk, Survives, KeepsCommit}
use Rattle.sql_writes.specs.LineEdits.{with_lines}
use Rattle.sql_writes.specs.PendingBalances.{MakesBut}
use Rattle.sql_writes.proofs.account_lines.pending.add_lines.Given as goal

-- the lines so far are added, but for what is pending
abbrev pub invariant-loop-line : goal.invariant-loop-line
invariant-loop-line g l =
    let start = state g.S.Store l.fn.tx.conn.now in
    let now = state g.S.Store l.tx.conn.now in
    record {
      same : l.tx.conn.ghost_name ≡ l.fn.tx.conn.ghost_name;
      made : HasCleanDisk now → MakesBut [] l.pending.items (with_lines (take l.line-index l.lines)) start now;
      keeps : HasCleanDisk now → KeepsCommit start now;
      survives : Survives start now (λ _. ⊥);
    }

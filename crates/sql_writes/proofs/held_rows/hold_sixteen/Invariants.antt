use Rattle.std.proofs.Common.{◌≡◌, take, length}
use Rattle.sql_writes.specs.HeldRows.{held_from}
use Rattle.sql_writes.proofs.held_rows.hold_sixteen.Given as goal

-- those so far are what their rows store
abbrev pub invariant-loop-at : goal.invariant-loop-at
invariant-loop-at g l = record {
  long : length l.all ≡ 16;
  made : take l.at l.all ≡ held_from (g.B.HoldBody.held l.body) l.first (take l.at l.rows);
}

use Rattle.std.proofs.Common.{◌≡◌, ◌+◌, drop}
use Rattle.std.specs.List.{position_or_len}
use Rattle.sql_writes.specs.PendingBalances.{is_pending_of}
use Rattle.sql_writes.proofs.account_lines.pending.place_of.Given as goal

-- none before it is of the line's account and value day
abbrev pub invariant-loop-balance : goal.invariant-loop-balance
invariant-loop-balance l = record {
  at : l.at ≡ l.balance-index;
  place : position_or_len (is_pending_of l.line.account l.line.value_day) l.pending ≡ l.balance-index + position_or_len (is_pending_of l.line.account l.line.value_day) (drop l.balance-index l.pending);
}

use Rattle.std.proofs.Common.{◌≡◌, ◌≤◌, ◌<◌, true, take, length}
use Rattle.sql_writes.specs.Runs.{is_run}
use Rattle.sql_writes.proofs.runs.run_length.Given as goal

-- those so far are a run
abbrev pub invariant-loop-at : goal.invariant-loop-at
invariant-loop-at g l = record {
  some : 0 < l.at;
  within : l.at ≤ length l.rows;
  run : is_run (g.F.Follows.stands_after l.body) (take l.at l.rows) ≡ true;
}

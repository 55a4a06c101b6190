use Rattle.std.proofs.Common.{◌≡◌, ◌++◌, length, map}
use Rattle.sqlite.specs.Held.{state}
use Rattle.sql_read_steps.proofs.InTurn.{Told}
use Rattle.sql_read_steps.proofs.each.read_each.Given as goal

-- what was read so far is what the tables had at first
abbrev pub invariant-loop-item : goal.invariant-loop-item
invariant-loop-item g l = Told (λ t. map (g.R.ItemRead.value l.read t) l.initial.left ≡ map g.R.ItemRead.shown l.all.items ++ map (g.R.ItemRead.value l.read t) l.left) (state g.S.Store l.fn.conn) (state g.S.Store l.conn)

abbrev pub decreases-loop-item : goal.decreases-loop-item
decreases-loop-item g l = length l.left

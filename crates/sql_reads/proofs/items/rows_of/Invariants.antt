use Rattle.std.proofs.Common.{◌≡◌, ◌++◌, Some, length, map}
use Rattle.sqlite.specs.Held.{state}
use Rattle.sql_read_steps.proofs.InTurn.{Told}
use Rattle.sql_reads.specs.ItemsFound.{row_in}
use Rattle.sql_reads.specs.Known.{IsKnown}
use Rattle.sql_reads.proofs.items.rows_of.Given as goal

-- what was read so far is what the tables had at first, and what is known is so of them
abbrev pub invariant-loop-line : goal.invariant-loop-line
invariant-loop-line g l =
    let row = row_in g.L.ItemLine.order g.L.ItemLine.row l.company in
    Told (λ t. IsKnown l.last t × (map (row t) l.initial.left ≡ map Some l.all.items ++ map (row t) l.left))
    (state g.S.Store l.fn.conn) (state g.S.Store l.conn)

abbrev pub decreases-loop-line : goal.decreases-loop-line
decreases-loop-line g l = length l.left

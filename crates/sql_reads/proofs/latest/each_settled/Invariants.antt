use Rattle.std.proofs.Common.{◌≡◌, ◌++◌, drop, map}
use Rattle.sqlite.specs.Held.{state}
use Rattle.sql_reads.specs.Known.{IsKnown}
use Rattle.sql_reads.specs.SettledPlaces.{settled_with}
use Rattle.sql_read_steps.proofs.InTurn.{Told}
use Rattle.sql_reads.proofs.latest.each_settled.Given as goal

-- what was found so far is what the tables had at first, and what is known is so of them
abbrev pub invariant-loop-entry : goal.invariant-loop-entry
invariant-loop-entry g l =
    Told (λ t. IsKnown l.last t × (map (settled_with t) l.sent ≡ map (λ o. o) l.all.items ++ map (settled_with t) (drop l.entry-index l.sent)))
    (state g.S.Store l.fn.conn) (state g.S.Store l.conn)

use Rattle.std.proofs.Common.{◌≡◌, ◌++◌, drop, map}
use Rattle.sqlite.specs.Held.{state}
use Rattle.sql_tables.specs.Composed.{traced_in}
use Rattle.sql_reads.specs.Known.{IsKnown}
use Rattle.sql_read_steps.proofs.InTurn.{Told}
use Rattle.sql_reads.proofs.traced.each_traced.Given as goal

-- what was found so far is what the tables had at first, and what is known is so of them
abbrev pub invariant-loop-trace : goal.invariant-loop-trace
invariant-loop-trace g l =
    Told (λ t. IsKnown l.last t × (map (traced_in l.dfi t) l.traces ≡ map (λ o. o) l.all.items ++ map (traced_in l.dfi t) (drop l.trace-index l.traces)))
    (state g.S.Store l.fn.conn) (state g.S.Store l.conn)

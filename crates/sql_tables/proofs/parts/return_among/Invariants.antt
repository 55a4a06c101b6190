use Rattle.std.proofs.Common.{◌≡◌, ◌==◌, drop, find}
use Rattle.sql_tables.proofs.parts.return_among.Given as goal

abbrev pub invariant-loop-back : goal.invariant-loop-back
invariant-loop-back l = find (λ r. r.index == l.index) (drop l.back-index l.returns) ≡ find (λ r. r.index == l.index) l.returns

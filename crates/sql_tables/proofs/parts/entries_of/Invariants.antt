use Rattle.std.proofs.Common.{◌≡◌, ◌∷◌, take, map}
use Rattle.sql_tables.proofs.parts.entries_of.Given as goal

abbrev pub invariant-loop-other : goal.invariant-loop-other
invariant-loop-other l = l.list ≡ map (λ e. e.entry) (l.first ∷ take l.other-index l.others)

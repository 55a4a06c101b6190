use Rattle.std.proofs.Common.{◌≡◌, ◌∷◌, [], take, map}
use Rattle.sql_queries.proofs.rows.read_column_of_all.Given as goal

abbrev pub invariant-loop-row : goal.invariant-loop-row
invariant-loop-row g l = map (λ x. g.T.FromColumn.stored x ∷ []) l.values.items ≡ take l.row-index l.rows

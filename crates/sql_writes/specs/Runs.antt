-- Rows of a list that follow one another.
use Rattle.std.specs.Prelude.{ℕ, Bool, true, List, [], ◌∷◌}
use Rattle.std.specs.List.{enumerate_from, list_all}

-- each stands so many after the first, by a test of the first, the number and the row
abbrev pub is_run : {X : Type 0} → (X → ℕ → X → Bool) → List X → Bool
is_run stands_after [] = true
is_run stands_after (first ∷ rest) = list_all (λ p. stands_after first p.0 p.1) (enumerate_from 1 rest)

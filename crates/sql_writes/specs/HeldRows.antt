-- Rows that are held beside each other, each under its number.
use Rattle.std.specs.Prelude.{ℕ, List, map}
use Rattle.std.specs.List.{enumerate_from}

-- the rows of values that are numbered from a first number on
abbrev pub held_from : {A B : Type 0} → (held : ℕ → A → B) → (first : ℕ) → List A → List B
held_from held first xs = map (λ p. held p.0 p.1) (enumerate_from first xs)

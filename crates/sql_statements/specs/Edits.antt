-- What the statements of a transaction make of tables, and what is known once they are made.
use Rattle.std.specs.Prelude.{⊤, ℕ, List, [], ◌∷◌}
use Rattle.std.specs.List.{enumerate_from}

pub record Edit (T : Type 0) : Type 1 where
  pub after : T → T
  -- what it tells of the tables as they were
  pub Tells : T → Type 0

-- a read: it leaves the tables
abbrev pub only_tells : {T : Type 0} → (T → Type 0) → Edit T
only_tells tells = record { after = λ t. t; Tells = tells }

abbrev pub no_edit : {T : Type 0} → Edit T
no_edit = only_tells (λ _. ⊤)

-- one edit after another; each tells of the tables that the ones before it left
abbrev pub then_edit : {T : Type 0} → Edit T → Edit T → Edit T
then_edit first next = record { after = λ t. next.after (first.after t); Tells = λ t. first.Tells t × next.Tells (first.after t) }

abbrev pub each_edit : {T X : Type 0} → (X → Edit T) → List X → Edit T
each_edit edit [] = no_edit
each_edit edit (x ∷ xs) = then_edit (edit x) (each_edit edit xs)

-- the same of rows that are numbered on from a first number
abbrev pub each_edit_from : {T X : Type 0} → (ℕ → X → Edit T) → ℕ → List X → Edit T
each_edit_from edit first xs = each_edit (λ p. edit p.0 p.1) (enumerate_from first xs)

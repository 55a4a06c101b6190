-- Lists in runs.
use Rattle.std.specs.Prelude.{ℕ, List, [], ◌∷◌, flat_map, take, drop}

-- the runs, one after another
abbrev pub flat : {A : Type 0} → List (List A) → List A
flat runs = flat_map (λ run. run) runs

-- the runs of a list that have these sizes
abbrev pub in_runs : {A : Type 0} → List ℕ → List A → List (List A)
in_runs [] xs = []
in_runs (n ∷ sizes) xs = take n xs ∷ in_runs sizes (drop n xs)

-- What is plain.
use Rattle.std.proofs.Common.{List, [], ◌∷◌}
use Rattle.std.specs.Prelude.{⊤}
use Rattle.std.specs.List.{AllByRecursion}

pub all_plain : {X : Type 0} (xs : List X) → AllByRecursion (λ _. ⊤) xs
all_plain [] = tt
all_plain (x ∷ xs) = (tt, all_plain xs)

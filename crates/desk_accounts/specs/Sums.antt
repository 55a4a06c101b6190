-- Sums of signed amounts.
use Rattle.std.specs.Prelude.{ℤ, pos, ◌+ℤ◌, List}
use Rattle.std.specs.List.{fold}

-- the sum of what each one adds
abbrev pub sum_of : {X : Type 0} → (X → ℤ) → List X → ℤ
sum_of amount xs = fold (λ sum x. sum +ℤ amount x) (pos 0) xs

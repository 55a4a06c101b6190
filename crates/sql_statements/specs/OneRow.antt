-- What it tells that a statement whose WHERE names a key wrote one row.
use Rattle.std.specs.Prelude.{◌≡◌, Bool, true, List, find, Some}
use Rattle.std.specs.List.{AllByRecursion}

-- p is the whole WHERE, and q its test of the key: the row of the key is there and passes, and no other row passes
pub record OneFound {X : Type 0} (p q : X → Bool) (xs : List X) : Type 0 where
  pub same : AllByRecursion (λ x. p x ≡ q x) xs
  pub row : X
  pub found : find q xs ≡ Some row
  pub passes : p row ≡ true

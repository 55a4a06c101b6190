-- Orders of keys, of which texts are in the order of their bytes.
use Rattle.std.specs.Prelude.{◌≡◌, ℕ, List}
use Rattle.std.specs.declared.cmp.Ordering.{Ordering}
use Rattle.std.specs.declared.cmp.Ordering.TheVariants.{Less}
use Rattle.std.specs.Cmp.Lexicographic.{slice_cmp}
use Rattle.std.specs.Ordering.{nat_cmp, on, then_cmp}
use Rattle.sqlite_trees.specs.Tree.{IsAscending}

abbrev pub text_cmp : List ℕ → List ℕ → Ordering
text_cmp = slice_cmp nat_cmp

-- by a text, then by a number
abbrev pub by_text_and_number : {X : Type 0} → (X → List ℕ) → (X → ℕ) → X → X → Ordering
by_text_and_number text number = then_cmp (on text text_cmp) (on number nat_cmp)

-- each is below each later one, so no key comes twice
abbrev pub IsInOrder : {X : Type 0} → (X → X → Ordering) → List X → Type 0
IsInOrder cmp = IsAscending (λ a b. cmp a b ≡ Less)

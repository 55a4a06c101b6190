-- Words about options, results and texts that the definitions share.
use Rattle.std.specs.Prelude.{ℕ, Bool, true, false, List, Option, Some, None, Result, Ok, Err}
use Rattle.std.specs.Cmp.Lexicographic.{slice_cmp}
use Rattle.std.specs.Ordering.{nat_cmp, is_lt}

-- the first, else the second
abbrev pub or_else : {A : Type 0} → Option A → Option A → Option A
or_else None second = second
or_else (Some a) second = Some a

-- the value, or this error
abbrev pub some_or : {A E : Type 0} → E → Option A → Result A E
some_or e (Some a) = Ok a
some_or e None = Err e

-- nothing, or this error where the test fails
abbrev pub holds_or : {E : Type 0} → E → Bool → Result (Unit {0}) E
holds_or e true = Ok tt
holds_or e false = Err e

-- is one text before another, by their bytes?
abbrev pub is_before : List ℕ → List ℕ → Bool
is_before s t = is_lt (slice_cmp nat_cmp s t)

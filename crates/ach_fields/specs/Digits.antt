-- Numbers and the digits that spell them.
use Rattle.std.specs.Prelude.{◌≡◌, ℕ, zero, suc, ◌+◌, ◌-◌, ◌*◌, ◌/◌, ◌%◌, true, List, [], ◌∷◌, ◌++◌}
use Rattle.std.specs.List.{fold, list_all}
use Rattle.ach_fields.specs.Characters.{is_digit}

-- the number that digits spell
unfoldable pub number : List ℕ → ℕ
number s = fold (λ n c. n * 10 + (c - 48)) 0 s

-- the last digits of a number, as many as the width says, with zeros before them
unfoldable pub digits : ℕ → ℕ → List ℕ
digits zero n = []
digits (suc width) n = digits width (n / 10) ++ (48 + n % 10) ∷ []

-- digits and nothing else
abbrev pub AreDigits : List ℕ → Type 0
AreDigits s = list_all is_digit s ≡ true

-- Return codes, by their number: R01 is 1.
use Rattle.std.specs.Prelude.{ℕ, ◌+◌, ◌*◌, ◌-◌, ◌/◌, ◌%◌, ◌&&◌, ◌==◌, nat_le, if◌then◌else◌, List, [], ◌∷◌, Option, Some, None}
use Rattle.std.specs.Int.{IsInRange}
use Rattle.ach_fields.specs.Characters.{is_digit}

abbrev pub IsCode : ℕ → Type 0
IsCode n = IsInRange 1 29 n

-- the number of a code's three characters, if they are one of R01 to R29
abbrev pub code_of : List ℕ → Option ℕ
code_of (r ∷ tens ∷ ones ∷ []) =
    if (r == 82) && is_digit tens && is_digit ones && nat_le 1 (10 * (tens - 48) + (ones - 48)) && nat_le (10 * (tens - 48) + (ones - 48)) 29
    then Some (10 * (tens - 48) + (ones - 48)) else None
code_of _ = None

-- R and two digits
abbrev pub code_text : ℕ → List ℕ
code_text n = 82 ∷ (48 + n / 10) ∷ (48 + n % 10) ∷ []

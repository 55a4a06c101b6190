-- The time class of each return code, by its number.
use Rattle.std.specs.Prelude.{ℕ, Bool, ◌==◌, if◌then◌else◌, List, [], ◌∷◌}
use Rattle.std.specs.List.{list_any}
use Rattle.desk_rules.specs.declared.rules.time_class.TimeClass.{TimeClass}
use Rattle.desk_rules.specs.declared.rules.time_class.TimeClass.TheVariants.{TwoBankingDays, SixtyDays, Unlimited}

-- does a list have a code?
abbrev pub is_among : (codes : List ℕ) → (code : ℕ) → Bool
is_among codes code = list_any (λ c. c == code) codes

-- R05 R07 R10 R11
abbrev pub sixty_day_codes : List ℕ
sixty_day_codes = 5 ∷ 7 ∷ 10 ∷ 11 ∷ []

-- R06 R13 R18 R19 R23 R25 R26 R27 R28
abbrev pub unlimited_codes : List ℕ
unlimited_codes = 6 ∷ 13 ∷ 18 ∷ 19 ∷ 23 ∷ 25 ∷ 26 ∷ 27 ∷ 28 ∷ []

-- all others have two banking days
abbrev pub time_class_of : ℕ → TimeClass
time_class_of code =
    if is_among sixty_day_codes code then SixtyDays
    else if is_among unlimited_codes code then Unlimited
    else TwoBankingDays

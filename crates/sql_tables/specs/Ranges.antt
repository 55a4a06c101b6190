-- The ranges of columns.
use Rattle.std.specs.Prelude.{◌≡◌, ◌≤◌, ◌==◌, ⊤, ℕ, List, length, IsTrue, Option, Some, None}
use Rattle.std.specs.Int.{IsInRange}
use Rattle.std.specs.List.{list_all, list_any}
use Rattle.ach_fields.specs.Characters.{is_printable}
use Rattle.ach_fields.specs.Text.{is_short_text}
use Rattle.bank_days.specs.Day.{first_day}
use Rattle.desk_plan.specs.Modifiers.{modifiers}
use Rattle.desk_rules.specs.Deadlines.{last_rule_day}

-- NULL, or within the range
abbrev pub FitsIfAny : {X : Type 0} → (X → Type 0) → Option X → Type 0
FitsIfAny Fits None = ⊤
FitsIfAny Fits (Some x) = Fits x

-- from 2000-01-01 to 2100-01-31
abbrev pub IsStoredDay : ℕ → Type 0
IsStoredDay d = IsInRange first_day last_rule_day d

-- 1 to n printable characters, with no blank at either end
abbrev pub IsText : ℕ → List ℕ → Type 0
IsText n s = (1 ≤ length s) × IsTrue (is_short_text n s)

-- one of the letters that a day's files get
abbrev pub IsModifier : ℕ → Type 0
IsModifier c = IsTrue (list_any (λ m. m == c) modifiers)

-- n characters that records may have
abbrev pub IsRecordText : ℕ → List ℕ → Type 0
IsRecordText n s = (length s ≡ n) × IsTrue (list_all is_printable s)

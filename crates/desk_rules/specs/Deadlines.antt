-- Until when a return is in time: Nacha's return deadlines.
use Rattle.std.specs.Prelude.{ℕ, ◌+◌, Bool, false, nat_le, nat_lt, if◌then◌else◌, List, Option, Some, None}
use Rattle.bank_days.specs.Calendar.{nth_after, next_banking}
use Rattle.desk_rules.specs.declared.rules.time_class.TimeClass.{TimeClass}
use Rattle.desk_rules.specs.declared.rules.time_class.TimeClass.TheVariants.{TwoBankingDays, SixtyDays, Unlimited}
use Rattle.desk_rules.specs.TimeClasses.{time_class_of}

-- 2100-01-31, the last day that a rule may be given
abbrev pub last_rule_day : ℕ
last_rule_day = 47_512

-- the day, if rules accept it
abbrev pub rule_day_of : (day : ℕ) → Option ℕ
rule_day_of day = if nat_le day last_rule_day then Some day else None

-- the last day of a time class, if it has one
abbrev pub last_day_of : TimeClass → (settled : ℕ) → (holidays : List ℕ) → Option ℕ
last_day_of TwoBankingDays settled holidays = Some (nth_after holidays settled 2)
last_day_of SixtyDays settled holidays = Some (next_banking holidays (settled + 60))
last_day_of Unlimited settled holidays = None

-- the last day on which a return with this code is in time, if there is one
abbrev pub deadline : (code : ℕ) → (settled : ℕ) → (holidays : List ℕ) → Option ℕ
deadline code settled holidays = last_day_of (time_class_of code) settled holidays

-- is a day after the deadline, if there is one?
abbrev pub is_after : Option ℕ → (taken : ℕ) → Bool
is_after None taken = false
is_after (Some last) taken = nat_lt last taken

-- is a return late that is taken on a day?
abbrev pub is_late : (code : ℕ) → (settled : ℕ) → (taken : ℕ) → (holidays : List ℕ) → Bool
is_late code settled taken holidays = is_after (deadline code settled holidays) taken

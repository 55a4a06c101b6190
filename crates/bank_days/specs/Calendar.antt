-- Banking days, counted.
use Rattle.std.specs.Prelude.{◌≡◌, ◌<◌, ◌≤◌, ℕ, zero, suc, ◌+◌, ◌-◌, Bool, true, not, ◌&&◌, ◌==◌, if◌then◌else◌, List, length, All}
use Rattle.std.specs.List.{list_any}
use Rattle.std.specs.List.Sorted.{IsStrictlyIncreasing}
use Rattle.bank_days.specs.Day.{last_argument_day, last_day, is_workday}

-- the most days of a holiday list
abbrev pub most_holidays : ℕ
most_holidays = 400

-- what a calendar's list is: ascending, not too long, no day after 2100-06-30
pub record AreHolidays (holidays : List ℕ) : Type 0 where
  pub ascending : IsStrictlyIncreasing holidays
  pub few : length holidays ≤ most_holidays
  pub bounded : All (λ h. h ≤ last_argument_day) holidays

-- not a Saturday, not a Sunday, not in the list
abbrev pub is_banking : (holidays : List ℕ) → (day : ℕ) → Bool
is_banking holidays d = is_workday d && not (list_any (λ h. h == d) holidays)

-- how many of the k days after d are banking days
unfoldable pub banking_days : (holidays : List ℕ) → (day : ℕ) → (count : ℕ) → ℕ
banking_days holidays d zero = 0
banking_days holidays d (suc k) = banking_days holidays d k + (if is_banking holidays (d + suc k) then 1 else 0)

-- e is the banking day after d with exactly n banking days from d + 1 to e
pub record IsNthAfter (holidays : List ℕ) (d n e : ℕ) : Type 0 where
  pub after : d < e
  pub banking : is_banking holidays e ≡ true
  pub count : banking_days holidays d (e - d) ≡ n

-- the first number that passes a test, among `count` numbers from `at` on, or the number after them
unfoldable pub first_from : (ℕ → Bool) → (count : ℕ) → (at : ℕ) → ℕ
first_from p zero at = at
first_from p (suc more) at = if p at then at else first_from p more (at + 1)

-- the first day after d with n banking days from d + 1 to it, sought to 2101-12-31
unfoldable pub nth_after : (holidays : List ℕ) → (day : ℕ) → ℕ → ℕ
nth_after holidays d n = first_from (λ e. banking_days holidays d (e - d) == n) (last_day - d) (d + 1)

-- the first banking day after d
abbrev pub next_banking : (holidays : List ℕ) → (day : ℕ) → ℕ
next_banking holidays d = nth_after holidays d 1

-- d where it is a banking day, else the next one
abbrev pub roll : (holidays : List ℕ) → (day : ℕ) → ℕ
roll holidays d = if is_banking holidays d then d else next_banking holidays d

-- e is the first banking day from d on
pub record IsFirstFrom (holidays : List ℕ) (d e : ℕ) : Type 0 where
  pub from : d ≤ e
  pub banking : is_banking holidays e ≡ true
  pub first : (k : ℕ) → d ≤ k → is_banking holidays k ≡ true → e ≤ k

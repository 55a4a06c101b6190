-- Dates of the Gregorian calendar, their numbers and their texts.
use Rattle.std.specs.Prelude.{ℕ, zero, suc, ◌+◌, ◌-◌, ◌%◌, Bool, not, ◌&&◌, ◌||◌, ◌==◌, nat_lt, nat_le, if◌then◌else◌, List, ◌∷◌, ◌++◌, length, take, drop, slice_index, Option, Some, None}
use Rattle.std.specs.List.{list_all}
use Rattle.ach_fields.specs.Characters.{is_digit}
use Rattle.ach_fields.specs.Digits.{digits, number}
use Rattle.bank_days.specs.declared.date.Date.{Date}

-- every fourth year, but of the centuries only every fourth
abbrev pub is_leap_year : ℕ → Bool
is_leap_year y = (y % 4 == 0) && (not (y % 100 == 0) || (y % 400 == 0))

-- the days of a year
abbrev pub days_in_year : ℕ → ℕ
days_in_year y = if is_leap_year y then 366 else 365

-- thirty days have April, June, September and November
abbrev pub days_in_month : (year : ℕ) → (month : ℕ) → ℕ
days_in_month y m =
    if m == 2 then (if is_leap_year y then 29 else 28)
    else (if (m == 4) || (m == 6) || (m == 9) || (m == 11) then 30 else 31)

-- the calendar has this day
abbrev pub is_date : Date → Bool
is_date d = nat_le 1 d.month && nat_le d.month 12 && nat_le 1 d.day && nat_le d.day (days_in_month d.year d.month)

-- the next day
abbrev pub day_after : Date → Date
day_after d =
    if nat_lt d.day (days_in_month d.year d.month) then record { year = d.year; month = d.month; day = d.day + 1 }
    else if nat_lt d.month 12 then record { year = d.year; month = d.month + 1; day = 1 }
    else record { year = d.year + 1; month = 1; day = 1 }

-- the date that a number names: 0 names 1970-01-01, and each number the day after the one before
unfoldable pub date_of_number : ℕ → Date
date_of_number zero = record { year = 1970; month = 1; day = 1 }
date_of_number (suc n) = day_after (date_of_number n)

-- the days of this many years, from 1970 on
unfoldable pub days_of_years : ℕ → ℕ
days_of_years zero = 0
days_of_years (suc n) = days_of_years n + days_in_year (1970 + n)

-- the days of this many months of a year, from January on
unfoldable pub days_of_months : (year : ℕ) → (count : ℕ) → ℕ
days_of_months y zero = 0
days_of_months y (suc m) = days_of_months y m + days_in_month y (suc m)

-- the number of a date from 1970 on: how many days lie between 1970-01-01 and it
unfoldable pub number_of_date : Date → ℕ
number_of_date d = days_of_years (d.year - 1970) + days_of_months d.year (d.month - 1) + (d.day - 1)

-- the text of a date, YYYY-MM-DD
unfoldable pub date_text : Date → List ℕ
date_text d = digits 4 d.year ++ 45 ∷ (digits 2 d.month ++ 45 ∷ digits 2 d.day)

-- a character of a date's text: a digit or a dash
abbrev pub is_date_character : ℕ → Bool
is_date_character c = is_digit c || (c == 45)

-- four digits, two and two, with a dash between
abbrev pub is_date_text : List ℕ → Bool
is_date_text s =
    (length s == 10) && (slice_index s 4 == 45) && (slice_index s 7 == 45)
    && list_all is_digit (take 4 s) && list_all is_digit (take 2 (drop 5 s)) && list_all is_digit (drop 8 s)

-- the year, month and day that a date's text spells, whether or not the calendar has the day
unfoldable pub date_in : List ℕ → Option Date
date_in s =
    if is_date_text s then Some (record { year = number (take 4 s); month = number (take 2 (drop 5 s)); day = number (drop 8 s) })
    else None

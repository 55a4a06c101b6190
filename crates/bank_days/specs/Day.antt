-- Days by their numbers; 1970-01-01 is 0.
use Rattle.std.specs.Prelude.{ℕ, ◌+◌, ◌%◌, Bool, ◌&&◌, ℤ, pos, negsuc, List, nat_lt, nat_le, if◌then◌else◌, Option, Some, None, option_and_then}
use Rattle.ach_fields.specs.Ymd.{date_text as short_text}
use Rattle.bank_days.specs.declared.date.Date.{Date}
use Rattle.bank_days.specs.Date.{is_date, date_of_number, number_of_date, date_text, date_in}

-- 2000-01-01
abbrev pub first_day : ℕ
first_day = 10_957

-- 2099-12-31, the last day that a text names
abbrev pub last_read_day : ℕ
last_read_day = 47_481

-- 2100-06-30, the last day that a call may be given
abbrev pub last_argument_day : ℕ
last_argument_day = 47_662

-- 2101-12-31
abbrev pub last_day : ℕ
last_day = 48_211

-- a day that a `Day` may be
abbrev pub is_day : ℕ → Bool
is_day n = nat_le first_day n && nat_le n last_day

-- the day with this number
abbrev pub day_from_number : ℤ → Option ℕ
day_from_number (pos n) = if is_day n then Some n else None
day_from_number (negsuc n) = None

-- the calendar has the date, in the years 2000 to 2099
abbrev pub is_date_of_century : Date → Bool
is_date_of_century d = is_date d && (nat_le 2000 d.year && nat_le d.year 2099)

-- the day with this date, if there is one in these years
unfoldable pub day_at : Date → Option ℕ
day_at d = if is_date_of_century d then Some (number_of_date d) else None

-- the day that a text YYYY-MM-DD names
unfoldable pub day_of : List ℕ → Option ℕ
day_of s = option_and_then day_at (date_in s)

-- the text of a day, YYYY-MM-DD
unfoldable pub day_text : ℕ → List ℕ
day_text n = date_text (date_of_number n)

-- the text of a day, YYMMDD
unfoldable pub day_ymd : ℕ → List ℕ
day_ymd n = let d = date_of_number n in short_text (d.year % 100) d.month d.day

-- the day of the week, from 0 for Monday to 6 for Sunday: 1970-01-01 was a Thursday
abbrev pub weekday : ℕ → ℕ
weekday n = (n + 3) % 7

-- neither a Saturday nor a Sunday
abbrev pub is_workday : ℕ → Bool
is_workday n = nat_lt (weekday n) 5

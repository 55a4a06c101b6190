-- Laws of days and of banking days.
use Rattle.std.specs.Prelude.{◌≡◌, ℕ, ◌+◌, ◌*◌, ◌≤◌, true, List, ◌∷◌, ◌++◌, length, take, drop, map, All, Option, Some, Ok, Err}
use Rattle.std.specs.List.{list_all}
use Rattle.std.specs.List.Sorted.{IsStrictlyIncreasing}
use Rattle.ach_fields.specs.Ymd.{is_date_text as is_ymd}
use Rattle.bank_days.specs.declared.date.Date.{Date}
use Rattle.bank_days.specs.Date.{is_date, is_date_character, date_of_number, number_of_date}
use Rattle.bank_days.specs.Day.{first_day, last_read_day, last_argument_day, last_day, day_of, day_text, day_ymd}
use Rattle.bank_days.specs.Calendar.{most_holidays, AreHolidays, IsNthAfter, IsFirstFrom, nth_after, roll}
use Rattle.bank_days.specs.declared.calendar_fault.CalendarFault.{CalendarFault}
use Rattle.bank_days.specs.HolidayList.{last_of, row_fault, holidays_of_rows, holidays_in}

-- each number names one date of the calendar, and each date from 1970 on has one number
pub record DaysAndDates : Type 0 where
  pub named : (n : ℕ) → is_date (date_of_number n) ≡ true
  pub number : (n : ℕ) → number_of_date (date_of_number n) ≡ n
  pub date : (d : Date) → is_date d ≡ true → 1970 ≤ d.year → date_of_number (number_of_date d) ≡ d
  pub first_is : date_of_number first_day ≡ record { year = 2000; month = 1; day = 1 }
  pub last_named_is : date_of_number last_read_day ≡ record { year = 2099; month = 12; day = 31 }
  pub last_given_is : date_of_number last_argument_day ≡ record { year = 2100; month = 6; day = 30 }
  pub last_is : date_of_number last_day ≡ record { year = 2101; month = 12; day = 31 }

-- texts are written as they were read, and read as they were written
pub record DaysAndTexts : Type 0 where
  pub written : (s : List ℕ) (n : ℕ) → day_of s ≡ Some n → day_text n ≡ s
  pub within : (s : List ℕ) (n : ℕ) → day_of s ≡ Some n → (first_day ≤ n) × (n ≤ last_read_day)
  pub read : (n : ℕ) → first_day ≤ n → n ≤ last_read_day → day_of (day_text n) ≡ Some n
  pub long : (n : ℕ) → length (day_text n) ≡ 10
  pub plain : (n : ℕ) → list_all is_date_character (day_text n) ≡ true
  pub short : (n : ℕ) → day_ymd n ≡ take 2 (drop 2 (day_text n)) ++ take 2 (drop 5 (day_text n)) ++ drop 8 (day_text n)
  pub valid : (n : ℕ) → is_ymd (day_ymd n) ≡ true

-- of the banking days after a day exactly one is the nth: where neither the day nor a holiday is after `last`,
-- it comes at most three days later for each of the n, and that of a later day is not earlier
pub record NthBankingDays : Type 0 where
  pub found : (holidays : List ℕ) (d n last : ℕ) → All (λ h. h ≤ last) holidays → d ≤ last → 1 ≤ n → last + 3 * n ≤ last_day → IsNthAfter holidays d n (nth_after holidays d n)
  pub only : (holidays : List ℕ) (d n e f : ℕ) → IsNthAfter holidays d n e → IsNthAfter holidays d n f → e ≡ f
  pub soon : (holidays : List ℕ) (d n last : ℕ) → All (λ h. h ≤ last) holidays → d ≤ last → 1 ≤ n → last + 3 * n ≤ last_day → nth_after holidays d n ≤ last + 3 * n
  pub rising : (holidays : List ℕ) (d e n last : ℕ) → All (λ h. h ≤ last) holidays → d ≤ e → e ≤ last → 1 ≤ n → last + 3 * n ≤ last_day → nth_after holidays d n ≤ nth_after holidays e n

-- a day is rolled to the first banking day from it on
pub record RolledDays : Type 0 where
  pub first : (holidays : List ℕ) (d last : ℕ) → All (λ h. h ≤ last) holidays → d ≤ last → last + 3 ≤ last_day → IsFirstFrom holidays d (roll holidays d)
  pub soon : (holidays : List ℕ) (d last : ℕ) → All (λ h. h ≤ last) holidays → d ≤ last → last + 3 ≤ last_day → roll holidays d ≤ last + 3

-- these days, ascending and not too many, are the rows
pub record IsList (rows : List (Option ℕ)) (days : List ℕ) : Type 0 where
  pub rows_are : rows ≡ map (λ d. Some d) days
  pub ascending : IsStrictlyIncreasing days
  pub few : length days ≤ most_holidays

-- the rows begin with a list, and this is the fault of the row after it
pub record IsFirstFault (rows : List (Option ℕ)) (fault : CalendarFault) : Type 0 where
  pub front : List (Option ℕ)
  pub days : List ℕ
  pub row : Option ℕ
  pub more : List (Option ℕ)
  pub rows_are : rows ≡ front ++ row ∷ more
  pub list : IsList front days
  pub fault_is : row_fault (length days + 1) (last_of days) row ≡ Some fault

-- rows make a holiday list exactly where they are ascending days and not too many; else the fault is that of the first row that has one
pub record HolidayLists : Type 0 where
  pub made : (rows : List (Option ℕ)) (days : List ℕ) → holidays_of_rows rows ≡ Ok days → IsList rows days
  pub makes : (rows : List (Option ℕ)) (days : List ℕ) → IsList rows days → holidays_of_rows rows ≡ Ok days
  pub refused : (rows : List (Option ℕ)) (fault : CalendarFault) → holidays_of_rows rows ≡ Err fault → IsFirstFault rows fault
  pub read : (s days : List ℕ) → holidays_in s ≡ Ok days → AreHolidays days × All (λ h. h ≤ last_read_day) days

-- The definitions, computed at known days: 2025-01-20 is the one holiday.
use Rattle.std.proofs.Common.{◌≡◌, ◌+◌, [], ◌∷◌, Some, None, Ok, Err, false, refl}
use Rattle.std.specs.Prelude.{codes}
use Rattle.bank_days.specs.Day.{day_of, is_workday}
use Rattle.bank_days.specs.Calendar.{nth_after, next_banking, roll}
use Rattle.bank_days.specs.HolidayList.{holidays_in}
use Rattle.bank_days.specs.OnLiterals.{bank_days_on_literals}
use Rattle.bank_days.specs.declared.calendar_fault.CalendarFault.TheVariants.{BadRow, NotAscending}

thursday : day_of (codes "2025-01-16") ≡ Some 20_104
unfolding bank_days_on_literals
thursday = refl

holiday : day_of (codes "2025-01-20") ≡ Some 20_108
unfolding bank_days_on_literals
holiday = refl

leap_day : day_of (codes "2024-02-29") ≡ Some 19_782
unfolding bank_days_on_literals
leap_day = refl

no_leap_day : day_of (codes "2025-02-29") ≡ None
unfolding bank_days_on_literals
no_leap_day = refl

last_day : day_of (codes "2099-12-31") ≡ Some 47_481
unfolding bank_days_on_literals
last_day = refl

later_year : day_of (codes "2100-01-01") ≡ None
unfolding bank_days_on_literals
later_year = refl

other_spelling : day_of (codes "2025-1-016") ≡ None
unfolding bank_days_on_literals
other_spelling = refl

-- 2025-01-18
saturday : is_workday 20_106 ≡ false
saturday = refl

-- after Thursday 2025-01-16 Friday, then the weekend and the holiday, then Tuesday
first_after : nth_after (20_108 ∷ []) 20_104 1 ≡ 20_105
unfolding bank_days_on_literals
first_after = refl

second_after : nth_after (20_108 ∷ []) 20_104 2 ≡ 20_109
unfolding bank_days_on_literals
second_after = refl

over_the_weekend : roll (20_108 ∷ []) 20_106 ≡ 20_109
unfolding bank_days_on_literals
over_the_weekend = refl

-- day 60 after 2025-01-10 is 03-11
sixty_days : next_banking (20_108 ∷ []) (20_098 + 60) ≡ 20_159
unfolding bank_days_on_literals
sixty_days = refl

one_holiday : holidays_in (codes "2025-01-20\n") ≡ Ok (20_108 ∷ [])
unfolding bank_days_on_literals
one_holiday = refl

same_again : holidays_in (codes "2025-01-20\n2025-01-20\n") ≡ Err (NotAscending 2)
unfolding bank_days_on_literals
same_again = refl

no_such_day : holidays_in (codes "2025-02-30\n") ≡ Err (BadRow 1)
unfolding bank_days_on_literals
no_such_day = refl

-- Days, banking days, deadlines and holiday lists, computed. 2025-01-20 is the one holiday.
use Rattle.std.specs.Prelude.{◌≡◌, ℕ, List, [], Some, true, false, codes, refl}
use Rattle.bank_days.specs.declared.calendar_fault.CalendarFault.TheVariants.{BadRow, NotAscending}
use Rattle.bank_days.specs.Calendar.{nth_after}
use Rattle.bank_days.specs.Day.{day_of}
use Rattle.bank_days.specs.HolidayList.{holidays_in}
use Rattle.desk_rules.specs.declared.refusals.refusal.Field.TheVariants as fields
use Rattle.desk_rules.specs.declared.refusals.refusal.Refusal.TheVariants as rules
use Rattle.desk_rules.specs.Deadlines.{is_late}
use Rattle.desk_history.specs.declared.answer.Answer.TheVariants.{Done, Refused}
use Rattle.desk_history.specs.declared.answer.Outcome.TheVariants as done
use Rattle.desk_history.specs.declared.answer.CallRefusal.TheVariants.{BadCalendar}
use Rattle.desk_history.specs.Message.{Message, SetHolidays}
use Rattle.desk_history.specs.Operator.{answer_to}
use Rattle.tests_of_history.proofs.OnLiterals.{desk_on_literals}
use Rattle.tests_of_history.proofs.Samples.{identity, listed, refused, on, new_desk}

-- the day on which most of the histories begin, and the last day that a desk may have
wednesday : day_of (codes "2025-01-08") ≡ Some 20096
unfolding desk_on_literals
wednesday = refl

last_desk_day : day_of (codes "2096-12-31") ≡ Some 46386
unfolding desk_on_literals
last_desk_day = refl

-- after Thursday 2025-01-16 come Friday 01-17, and after the weekend and the holiday Tuesday 01-21
first_banking_day_after_thursday : nth_after listed 20104 1 ≡ 20105
unfolding desk_on_literals
first_banking_day_after_thursday = refl

second_banking_day_after_thursday : nth_after listed 20104 2 ≡ 20109
unfolding desk_on_literals
second_banking_day_after_thursday = refl

-- R01 of what settled on Friday 2025-01-17: in time on 01-22, late on 01-23
two_banking_days_on_the_last : is_late 1 20105 20110 listed ≡ false
unfolding desk_on_literals
two_banking_days_on_the_last = refl

two_banking_days_are_over : is_late 1 20105 20111 listed ≡ true
unfolding desk_on_literals
two_banking_days_are_over = refl

-- R10 of what settled on 2025-01-10: its sixtieth day is 03-11; in time on 03-12, late on 03-13
sixty_days_on_the_last : is_late 10 20098 20159 listed ≡ false
unfolding desk_on_literals
sixty_days_on_the_last = refl

sixty_days_are_over : is_late 10 20098 20160 listed ≡ true
unfolding desk_on_literals
sixty_days_are_over = refl

-- ---- the desk day

-- a Saturday, and the present day again
a_desk_day_is_a_banking_day : answer_to identity new_desk (on (codes "2025-01-18")) ≡ refused rules.NotBankingDay
unfolding desk_on_literals
a_desk_day_is_a_banking_day = refl

a_desk_day_is_later : answer_to identity new_desk (on (codes "2025-01-08")) ≡ refused rules.DayNotLater
unfolding desk_on_literals
a_desk_day_is_later = refl

the_next_desk_day : answer_to identity new_desk (on (codes "2025-01-09")) ≡ Done (done.Day 20097)
unfolding desk_on_literals
the_next_desk_day = refl

-- the last day that a desk may have is a Monday; the day after it is a bad field
the_last_desk_day : answer_to identity new_desk (on (codes "2096-12-31")) ≡ Done (done.Day 46386)
unfolding desk_on_literals
the_last_desk_day = refl

a_desk_day_too_far : answer_to identity new_desk (on (codes "2097-01-01")) ≡ refused (rules.BadField fields.Day 0)
unfolding desk_on_literals
a_desk_day_too_far = refl

-- ---- holiday lists

abbrev sets_holidays : List ℕ → Message
sets_holidays text = SetHolidays (holidays_in text)

one_holiday : answer_to identity [] (sets_holidays (codes "2025-01-20\n")) ≡ Done (done.Holidays 1)
unfolding desk_on_literals
one_holiday = refl

the_same_holiday_twice : answer_to identity [] (sets_holidays (codes "2025-01-20\n2025-01-20\n")) ≡ Refused (BadCalendar (NotAscending 2))
unfolding desk_on_literals
the_same_holiday_twice = refl

a_holiday_that_is_no_day : answer_to identity [] (sets_holidays (codes "2025-02-30\n")) ≡ Refused (BadCalendar (BadRow 1))
unfolding desk_on_literals
a_holiday_that_is_no_day = refl

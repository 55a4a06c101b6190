-- The library's count of days is that of the calendar.
use Rattle.std.proofs.Common.{◌≡◌, ℕ, zero, suc, ◌+◌, ◌-◌, ◌%◌, ◌^◌, ◌<◌, ◌≤◌, ◌↔◌, true, false, nat_lt, ℤ, pos, ◌-ℤ◌, to_z, of_z, w32, unsigned_abs, Some, None, Result, Ok, Err, IsOk, IfOk, is_ok, refl, sym, ap, ◌∙◌, arith, rules, inl, inr}
use Rattle.std.proofs.lemmas.Bool.{cases_Bool, false≢true}
use Rattle.std.proofs.lemmas.Bool.Decides.{nat_tests}
use Rattle.std.specs.Int.{IsInRange}
use Rattle.std.specs.Result.{result_ok}
use Rattle.jiff_core.specs.Calendar.{days_in_year as plain_days_in_year, days_of_years as plain_days_of_years, days_of_months as plain_days_of_months, day_count, days_from_civil, IsDate, weekday_number}
use Rattle.jiff_core.specs.Date.{epoch_day, IsYmd, weekday_of}
use Rattle.jiff_core.specs.declared.civil.date.Date.{Date as PlainDate}
use mir.Val.{hbits}
use Rattle.jiff_core.proofs.SignedLemmas.{signed_arith, back_small}
use Rattle.jiff_core.proofs.CalendarLemmas.{days_from_civil-day_count, day_count-epoch, weekday_number-parts}
use Rattle.jiff_core.proofs.DateLemmas.{epoch_day_injective}
use Rattle.bank_days.specs.declared.date.Date.{Date}
use Rattle.bank_days.specs.Date.{days_in_month, is_date, days_of_years, days_of_months, date_of_number, number_of_date}
use Rattle.bank_days.specs.Day.{is_date_of_century, day_at, weekday, is_workday}
use Rattle.bank_days.proofs.DateNumbers.{IsReal, names, year_bound, real_date, century_bounds}
use Rattle.bank_days.proofs.DayTexts.{no_day, a_day}

same_months : (y m : ℕ) → plain_days_of_months (pos y) m ≡ days_of_months y m
unfolding plain_days_of_months days_of_months
same_months y zero = refl
same_months y (suc m) = ap (λ n. n + days_in_month y (suc m)) (same_months y m)

same_years : (k : ℕ) → plain_days_of_years (11970 + k) ≡ plain_days_of_years 11970 + days_of_years k
unfolding plain_days_of_years days_of_years
same_years zero = omega arith
same_years (suc k) =
    let next : 11970 + suc k ≡ suc (11970 + k) = omega arith in
    let year : pos (11970 + k) -ℤ pos 10000 ≡ pos (1970 + k) = omega (arith, signed_arith) in
    ap plain_days_of_years next ∙ ap (λ y. plain_days_of_years (11970 + k) + plain_days_in_year y) year ∙ omega (arith, same_years k)

count_is : (d : Date) → IsReal d → day_count (pos d.year) d.month d.day ≡ plain_days_of_years 11970 + number_of_date d
unfolding day_count number_of_date
count_is d f =
    let years : plain_days_of_years (d.year + 10000) ≡ plain_days_of_years 11970 + days_of_years (d.year - 1970)
    = ap plain_days_of_years (omega (arith, f.since)) ∙ same_years (d.year - 1970) in
    omega (arith, years, same_months d.year (d.month - 1), f.day)

epoch_count : day_count (pos 1970) 1 1 ≡ plain_days_of_years 11970
unfolding day_count plain_days_of_months
epoch_count = omega arith

-- the library's number of a date
pub same_number : (d : Date) → IsReal d → days_from_civil (pos d.year) d.month d.day ≡ pos (number_of_date d)
same_number d f = omega (arith, signed_arith, days_from_civil-day_count (pos d.year) d.month d.day, count_is d f, epoch_count, day_count-epoch)

-- the library's date with a number has the parts that the number names
pub record HasParts (plain : PlainDate) (d : Date) : Type 0 where
  pub year : plain.year ≡ pos d.year
  pub month : plain.month ≡ d.month
  pub day : plain.day ≡ d.day

pub same_date : (plain : PlainDate) (n : ℕ) → n ≤ 48211 → epoch_day plain ≡ pos n → HasParts plain (date_of_number n)
same_date plain n le is =
    let f = names n in
    let d = date_of_number n in
    let through = year_bound n le in
    let named : PlainDate = record { year = pos d.year; month = d.month; day = d.day; year_in = (omega (arith, signed_arith), omega (arith, signed_arith)); month_in = f.real.month; day_in = f.real.day } in
    let same = epoch_day_injective plain named (is ∙ sym (same_number d f.real ∙ ap pos f.number)) in
    record { year = same.0; month = same.1; day = same.2 }

allowed : (d : Date) → d.year ≤ 2099 → is_date d ≡ true → IsDate (pos d.year) (pos d.month) (pos d.day)
allowed d within h =
    let low : 1 ≤ d.month = grind (arith, nat_tests) in
    let high : d.month ≤ 12 = grind (arith, nat_tests) in
    let first : 1 ≤ d.day = grind (arith, nat_tests) in
    let last : d.day ≤ days_in_month d.year d.month = grind (arith, nat_tests) in
    ((omega (arith, signed_arith), omega (arith, signed_arith)), (omega (arith, signed_arith), omega (arith, signed_arith)), (omega (arith, signed_arith), omega (arith, signed_arith)))

real : (d : Date) → IsDate (pos d.year) (pos d.month) (pos d.day) → is_date d ≡ true
real d h = grind (arith, nat_tests, signed_arith)

-- if the library refuses a date, the day does not exist
pub refused : {E : Type 0} (r : Result PlainDate E) (d : Date) (y m k : ℤ) → (IsOk r ↔ IsDate y m k) → false ≡ is_ok r → y ≡ pos d.year → m ≡ pos d.month → k ≡ pos d.day → d.year ≤ 2099 → day_at d ≡ None
refused (Ok plain) d y m k h no-date year month day within = absurd (false≢true no-date)
refused (Err e) d y m k h no-date year month day within =
    elim (cases_Bool (is_date d)) [
      | inl has ↦ absurd (false≢true (h.1 (rw (year, month, day) (allowed d within has))))
      | inr lacks ↦ no_day d (rw lacks refl)
    ]

-- where it takes one, its number is that of the day
pub record IsNumberOf (d : Date) (z : ℤ) : Type 0 where
  pub day : day_at d ≡ Some (number_of_date d)
  pub bounds : IsInRange 10957 47481 (number_of_date d)
  pub kept : to_z w32 (of_z w32 z) ≡ pos (number_of_date d)

pub taken : {E : Type 0} (r : Result PlainDate E) (d : Date) (y m k : ℤ) (plain : PlainDate) (n : ℤ) → (IsOk r ↔ IsDate y m k) → IfOk r (IsYmd y m k) → Some plain ≡ result_ok r → n ≡ epoch_day plain
    → y ≡ pos d.year → m ≡ pos d.month → k ≡ pos d.day → 2000 ≤ d.year → d.year ≤ 2099 → IsNumberOf d n
taken (Err e) d y m k plain n h parts is number year month day low high = cc
taken (Ok v) d y m k plain n h parts is number year month day low high =
    let same : plain ≡ v = cc in
    let named : IsYmd y m k plain = rw same parts in
    let has : is_date d ≡ true = real d (rw (year, month, day) at (h.0 (search rules))) in
    let f = real_date d has (omega arith) in
    let month-is : plain.month ≡ d.month = omega (arith, signed_arith, named.1, month) in
    let day-is : plain.day ≡ d.day = omega (arith, signed_arith, named.2, day) in
    let count : n ≡ pos (number_of_date d) = number ∙ (λ i. days_from_civil ((named.0 ∙ year) i) (month-is i) (day-is i)) ∙ same_number d f in
    let century : is_date_of_century d ≡ true = rw has (grind (arith, nat_tests)) in
    let bounds = century_bounds d f low high in
    let small : unsigned_abs n < 2 ^ hbits w32 = rw count (omega (arith, bounds)) in
    record { day = a_day d century; bounds = bounds; kept = back_small w32 n small ∙ count }

-- the library's weekday
pub same_workday : (plain : PlainDate) (n : ℕ) → epoch_day plain ≡ pos n → nat_lt (weekday_of plain) 5 ≡ is_workday n
same_workday plain n is =
    let same : weekday_number (pos n) ≡ weekday n = weekday_number-parts (pos n) ∙ ap (λ k. k % 7) (omega arith) in
    ap (λ z. nat_lt (weekday_number z) 5) is ∙ ap (λ k. nat_lt k 5) same

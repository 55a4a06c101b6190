-- Each number names one real date, and each real date from 1970 on has one number.
use Rattle.std.proofs.Common.{◌≡◌, ℕ, zero, suc, ◌+◌, ◌-◌, ◌<◌, ◌≤◌, Bool, true, false, cond, nat_lt, refl, sym, ap, ◌∙◌, subst, arith, inl, inr}
use Rattle.std.proofs.lemmas.Bool.{cases_lt}
use Rattle.std.proofs.lemmas.Bool.Decides.{nat_tests}
use Rattle.std.specs.Int.{IsInRange}
use Rattle.bank_days.specs.declared.date.Date.{Date}
use Rattle.bank_days.specs.Date.{is_leap_year, days_in_year, days_in_month, is_date, day_after, date_of_number, days_of_years, days_of_months, number_of_date}

-- a date that the calendar has, from 1970 on
pub record IsReal (d : Date) : Type 0 where
  pub since : 1970 ≤ d.year
  pub month : IsInRange 1 12 d.month
  pub day : IsInRange 1 (days_in_month d.year d.month) d.day

pub days_in_month_bounds : (y m : ℕ) → IsInRange 28 31 (days_in_month y m)
days_in_month_bounds y m = (grind arith, grind arith)

months_more : (y m : ℕ) → days_of_months y (suc m) ≡ days_of_months y m + days_in_month y (suc m)
unfolding days_of_months
months_more y m = refl

months_all : (y : ℕ) → days_of_months y 12 ≡ days_in_year y
unfolding days_of_months
months_all y = elim (is_leap_year y) as (λ b. 0 + 31 + cond b 29 28 + 31 + 30 + 31 + 30 + 31 + 31 + 30 + 31 + 30 + 31 ≡ cond b 366 365) [ true ↦ refl | false ↦ refl ]

years_more : (n : ℕ) → days_of_years (suc n) ≡ days_of_years n + days_in_year (1970 + n)
unfolding days_of_years
years_more n = refl

none : (y : ℕ) → days_of_months y (1 - 1) ≡ 0
unfolding days_of_months
none y = refl

number_is : (d : Date) → number_of_date d ≡ days_of_years (d.year - 1970) + days_of_months d.year (d.month - 1) + (d.day - 1)
unfolding number_of_date
number_is d = refl

-- a date that is real, with this number
pub record Names (n : ℕ) (d : Date) : Type 0 where
  pub real : IsReal d
  pub number : number_of_date d ≡ n

first : Names 0 (record { year = 1970; month = 1; day = 1 })
unfolding number_of_date days_of_years days_of_months
first = record { real = record { since = omega arith; month = (omega arith, omega arith); day = (omega arith, omega arith) }; number = refl }

next_by : (n : ℕ) (d : Date) → Names n d → (s t : Bool) → nat_lt d.day (days_in_month d.year d.month) ≡ s → nat_lt d.month 12 ≡ t
    → Names (suc n) (cond s (record { year = d.year; month = d.month; day = d.day + 1 }) (cond t (record { year = d.year; month = d.month + 1; day = 1 }) (record { year = d.year + 1; month = 1; day = 1 })))
next_by n d f true t p q =
    let r = f.real in
    let lt : d.day < days_in_month d.year d.month = grind (arith, nat_tests) in
    record {
      real = record { since = r.since; month = r.month; day = (omega arith, omega arith) };
      number = number_is _ ∙ omega (arith, number_is d, f.number, r.day);
    }
next_by n d f false true p q =
    let r = f.real in
    let ge : days_in_month d.year d.month ≤ d.day = grind (arith, nat_tests) in
    let lt : d.month < 12 = grind (arith, nat_tests) in
    let here : suc (d.month - 1) ≡ d.month = omega (arith, r.month) in
    let month : days_of_months d.year d.month ≡ days_of_months d.year (d.month - 1) + days_in_month d.year d.month
    = subst (λ m. days_of_months d.year m ≡ days_of_months d.year (d.month - 1) + days_in_month d.year m) here (months_more d.year (d.month - 1)) in
    let back : d.month + 1 - 1 ≡ d.month = omega arith in
    record {
      real = record { since = r.since; month = (omega arith, omega arith); day = (omega arith, omega (arith, days_in_month_bounds d.year (d.month + 1))) };
      number = number_is _ ∙ rw (back, month) (omega (arith, number_is d, f.number, r.day));
    }
next_by n d f false false p q =
    let r = f.real in
    let ge : days_in_month d.year d.month ≤ d.day = grind (arith, nat_tests) in
    let last : d.month ≡ 12 = let le : 12 ≤ d.month = grind (arith, nat_tests) in omega (arith, r.month) in
    let low : 31 ≤ d.day = subst (λ (m : ℕ). days_in_month d.year m ≤ d.day) last ge in
    let high : d.day ≤ 31 = subst (λ (m : ℕ). d.day ≤ days_in_month d.year m) last r.day.1 in
    let eleven : d.month - 1 ≡ 11 = omega arith in
    let months : days_of_months d.year (d.month - 1) + 31 ≡ days_in_year d.year
    = ap (λ m. days_of_months d.year m + 31) eleven ∙ sym (months_more d.year 11) ∙ months_all d.year in
    let back : d.year + 1 - 1970 ≡ suc (d.year - 1970) = omega (arith, r.since) in
    let here : 1970 + (d.year - 1970) ≡ d.year = omega (arith, r.since) in
    let years : days_of_years (d.year + 1 - 1970) ≡ days_of_years (d.year - 1970) + days_in_year d.year
    = ap days_of_years back ∙ years_more (d.year - 1970) ∙ ap (λ y. days_of_years (d.year - 1970) + days_in_year y) here in
    record {
      real = record { since = omega (arith, r.since); month = (omega arith, omega arith); day = (omega arith, omega (arith, days_in_month_bounds (d.year + 1) 1)) };
      number = number_is _ ∙ rw (years, none (d.year + 1)) (omega (arith, number_is d, f.number, months));
    }

-- what each number names
pub names : (n : ℕ) → Names n (date_of_number n)
unfolding date_of_number
names zero = first
names (suc n) = next_by n (date_of_number n) (names n) _ _ refl refl

-- k days later within a month
walk_days : (a y m k : ℕ) → date_of_number a ≡ record { year = y; month = m; day = 1 } → k < days_in_month y m
    → date_of_number (a + k) ≡ record { year = y; month = m; day = k + 1 }
unfolding date_of_number
walk_days a y m zero at lt = let same : a + 0 ≡ a = omega arith in ap date_of_number same ∙ at
walk_days a y m (suc k) at lt =
    let before = walk_days a y m k at (omega arith) in
    let more : nat_lt (k + 1) (days_in_month y m) ≡ true = grind (arith, nat_tests) in
    let next : a + suc k ≡ suc (a + k) = omega arith in
    let one : k + 1 + 1 ≡ suc k + 1 = omega arith in
    ap date_of_number next ∙ ap day_after before ∙ rw more (ap (λ (n : ℕ). record { year = y; month = m; day = n }) one)

-- a whole month on
walk_month : (a y m : ℕ) → date_of_number a ≡ record { year = y; month = m; day = 1 } → m < 12
    → date_of_number (a + days_in_month y m) ≡ record { year = y; month = m + 1; day = 1 }
unfolding date_of_number
walk_month a y m at lt =
    let b = days_in_month_bounds y m in
    let last = walk_days a y m (days_in_month y m - 1) at (omega (arith, b)) in
    let whole : days_in_month y m - 1 + 1 ≡ days_in_month y m = omega (arith, b) in
    let end : nat_lt (days_in_month y m - 1 + 1) (days_in_month y m) ≡ false = grind (arith, nat_tests) in
    let more : nat_lt m 12 ≡ true = grind (arith, nat_tests) in
    let next : a + days_in_month y m ≡ suc (a + (days_in_month y m - 1)) = omega (arith, b) in
    ap date_of_number next ∙ ap day_after last ∙ rw (end, more) refl

-- to the first day of a later month
walk_months : (a y m : ℕ) → date_of_number a ≡ record { year = y; month = 1; day = 1 } → m < 12
    → date_of_number (a + days_of_months y m) ≡ record { year = y; month = m + 1; day = 1 }
walk_months a y zero at lt =
    let same : a + days_of_months y 0 ≡ a = omega (arith, none y) in
    ap date_of_number same ∙ at
walk_months a y (suc m) at lt =
    let before = walk_months a y m at (omega arith) in
    let here : m + 1 ≡ suc m = omega arith in
    let month : date_of_number (a + days_of_months y m) ≡ record { year = y; month = suc m; day = 1 } = before ∙ ap (λ (n : ℕ). record { year = y; month = n; day = 1 }) here in
    let more : a + days_of_months y (suc m) ≡ a + days_of_months y m + days_in_month y (suc m) = omega (arith, months_more y m) in
    ap date_of_number more ∙ walk_month (a + days_of_months y m) y (suc m) month lt

-- to the first day of a later year
walk_years : (k : ℕ) → date_of_number (days_of_years k) ≡ record { year = 1970 + k; month = 1; day = 1 }
unfolding date_of_number days_of_years
walk_years zero = refl
walk_years (suc k) =
    let y = 1970 + k in
    let december = walk_months (days_of_years k) y 11 (walk_years k) (omega arith) in
    let last = walk_days (days_of_years k + days_of_months y 11) y 12 30 december (omega arith) in
    let whole : days_of_years (suc k) ≡ suc (days_of_years k + days_of_months y 11 + 30) = omega (arith, years_more k, months_all y, months_more y 11) in
    let year : y + 1 ≡ 1970 + suc k = omega arith in
    ap date_of_number whole ∙ ap day_after last ∙ ap (λ (n : ℕ). record { year = n; month = 1; day = 1 }) year

-- the number of a date names it
pub date_of_number-number_of_date : (d : Date) → IsReal d → date_of_number (number_of_date d) ≡ d
date_of_number-number_of_date d f =
    let here : 1970 + (d.year - 1970) ≡ d.year = omega (arith, f.since) in
    let year : date_of_number (days_of_years (d.year - 1970)) ≡ record { year = d.year; month = 1; day = 1 }
    = walk_years (d.year - 1970) ∙ ap (λ (n : ℕ). record { year = n; month = 1; day = 1 }) here in
    let january : d.month - 1 + 1 ≡ d.month = omega (arith, f.month) in
    let month : date_of_number (days_of_years (d.year - 1970) + days_of_months d.year (d.month - 1)) ≡ record { year = d.year; month = d.month; day = 1 }
    = walk_months _ d.year (d.month - 1) year (omega (arith, f.month)) ∙ ap (λ (n : ℕ). record { year = d.year; month = n; day = 1 }) january in
    let one : d.day - 1 + 1 ≡ d.day = omega (arith, f.day) in
    ap date_of_number (number_is d) ∙ walk_days _ d.year d.month (d.day - 1) month (omega (arith, f.day)) ∙ ap (λ (n : ℕ). record { year = d.year; month = d.month; day = n }) one

years_mono : (j k : ℕ) → j ≤ k → days_of_years j ≤ days_of_years k
years_mono j zero le = let same : j ≡ 0 = omega arith in rw same (omega arith)
years_mono j (suc k) le =
    elim (cases_lt k j) [
      | inl lt ↦ let same : j ≡ suc k = omega arith in rw same (omega arith)
      | inr within ↦ omega (arith, years_mono j k within, years_more k)
    ]

months_mono : (y j k : ℕ) → j ≤ k → days_of_months y j ≤ days_of_months y k
months_mono y j zero le = let same : j ≡ 0 = omega arith in rw same (omega arith)
months_mono y j (suc k) le =
    elim (cases_lt k j) [
      | inl lt ↦ let same : j ≡ suc k = omega arith in rw same (omega arith)
      | inr within ↦ omega (arith, months_mono y j k within, months_more y k)
    ]

-- a date lies in its year
pub within_year : (d : Date) → IsReal d → IsInRange (days_of_years (d.year - 1970)) (days_of_years (d.year - 1969) - 1) (number_of_date d)
within_year d f =
    let january : suc (d.month - 1) ≡ d.month = omega (arith, f.month) in
    let month : days_of_months d.year d.month ≡ days_of_months d.year (d.month - 1) + days_in_month d.year d.month
    = subst (λ m. days_of_months d.year m ≡ days_of_months d.year (d.month - 1) + days_in_month d.year m) january (months_more d.year (d.month - 1)) in
    let months = months_mono d.year d.month 12 (omega (arith, f.month)) in
    let next : d.year - 1969 ≡ suc (d.year - 1970) = omega (arith, f.since) in
    let here : 1970 + (d.year - 1970) ≡ d.year = omega (arith, f.since) in
    let years : days_of_years (d.year - 1969) ≡ days_of_years (d.year - 1970) + days_in_year d.year
    = ap days_of_years next ∙ years_more (d.year - 1970) ∙ ap (λ y. days_of_years (d.year - 1970) + days_in_year y) here in
    (omega (arith, number_is d), omega (arith, number_is d, month, months, months_all d.year, years, f.day))

to_2000 : days_of_years 30 ≡ 10957
unfolding days_of_years
to_2000 = refl

to_2100 : days_of_years 130 ≡ 47482
unfolding days_of_years
to_2100 = refl

to_2102 : days_of_years 132 ≡ 48212
unfolding days_of_years
to_2102 = refl

-- the numbers of the years 2000 to 2099
pub century_bounds : (d : Date) → IsReal d → 2000 ≤ d.year → d.year ≤ 2099 → IsInRange 10957 47481 (number_of_date d)
century_bounds d f low high =
    let within = within_year d f in
    (omega (arith, within, to_2000, years_mono 30 (d.year - 1970) (omega arith)), omega (arith, within, to_2100, years_mono (d.year - 1969) 130 (omega arith)))

-- the numbers through 2101 name dates through 2101
pub year_bound : (n : ℕ) → n ≤ 48211 → (date_of_number n).year ≤ 2101
year_bound n le =
    let f = names n in
    let within = within_year (date_of_number n) f.real in
    elim (cases_lt 2101 (date_of_number n).year) [
      | inl late ↦ absurd (omega (arith, within, f.number, to_2102, years_mono 132 ((date_of_number n).year - 1970) (omega arith)))
      | inr through ↦ through
    ]

-- what the test says
pub real_date : (d : Date) → is_date d ≡ true → 1970 ≤ d.year → IsReal d
real_date d h since = record { since = since; month = (grind (arith, nat_tests), grind (arith, nat_tests)); day = (grind (arith, nat_tests), grind (arith, nat_tests)) }

pub is_date_real : (d : Date) → IsReal d → is_date d ≡ true
is_date_real d f = let m = f.month in let k = f.day in grind (arith, nat_tests)

-- and these years have no others
pub century_year : (n : ℕ) → 10957 ≤ n → n ≤ 47481 → IsInRange 2000 2099 (date_of_number n).year
century_year n low high =
    let f = names n in
    let y = (date_of_number n).year in
    let within = within_year (date_of_number n) f.real in (
      elim (cases_lt y 2000) [
        | inl early ↦ absurd (omega (arith, within, f.number, f.real.since, to_2000, years_mono (y - 1969) 30 (omega arith)))
        | inr since ↦ since
      ],
      elim (cases_lt 2099 y) [
        | inl late ↦ absurd (omega (arith, within, f.number, to_2100, years_mono 130 (y - 1970) (omega arith)))
        | inr through ↦ through
      ],
    )

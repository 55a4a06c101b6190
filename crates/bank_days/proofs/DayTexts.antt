-- The day that a text names, and the text of a day.
use Rattle.std.proofs.Common.{◌≡◌, ℕ, ◌+◌, ◌/◌, ◌%◌, ◌<◌, ◌≤◌, ◌^◌, true, false, Option, Some, None, List, [], ◌∷◌, ◌++◌, length, take, drop, slice_index, refl, sym, ap, ◌∙◌, arith, inl, inr, length-drop}
use Rattle.std.proofs.Math.Seq.{drop-cons}
use Rattle.std.proofs.lemmas.List.{drop-drop, take-append-drop, length-take-le}
use Rattle.ach_fields.specs.Digits.{digits, number, AreDigits}
use Rattle.ach_fields.specs.Ymd.{is_date as is_ymd_date, is_date_text as is_ymd, date_text as ymd_text, spells_date as spells_ymd}
use Rattle.ach_fields.specs.Laws.{NumbersAndDigits}
use Rattle.std.proofs.lemmas.Bool.{cases_Bool, and_parts, and_from, or_left, eqb-true, eq-eqb, le-leb}
use Rattle.std.proofs.lemmas.Bool.Decides.{nat_tests}
use Rattle.std.proofs.lemmas.List.Folds.{list_all-append}
use Rattle.std.specs.Int.{IsInRange}
use Rattle.std.specs.List.{list_all}
use Rattle.std.specs.Option.{option_and_then}
use Rattle.ach_fields.specs.Characters.{is_digit}
use Rattle.bank_days.specs.declared.date.Date.{Date}
use Rattle.bank_days.specs.Date.{is_date, is_date_character, is_date_text, date_in, date_text, date_of_number, number_of_date}
use Rattle.bank_days.specs.Day.{is_date_of_century, day_at, day_of, day_text, day_ymd}
use Rattle.bank_days.proofs.DateNumbers.{names, real_date, is_date_real, days_in_month_bounds, century_bounds, century_year, date_of_number-number_of_date}

-- a date outside the years 2000 to 2099, or that the calendar does not have
pub no_day : (d : Date) → is_date_of_century d ≡ false → day_at d ≡ None
unfolding day_at
no_day d h = rw h refl

pub a_day : (d : Date) → is_date_of_century d ≡ true → day_at d ≡ Some (number_of_date d)
unfolding day_at
a_day d h = rw h refl

-- what a date of these years has
pub record HasDay (d : Date) (n : ℕ) : Type 0 where
  pub century : is_date_of_century d ≡ true
  pub number : number_of_date d ≡ n
  pub bounds : IsInRange 10957 47481 n

pub has_day : (d : Date) (n : ℕ) → day_at d ≡ Some n → HasDay d n
has_day d n is =
    elim (cases_Bool (is_date_of_century d)) [
      | inl century ↦
          let number : number_of_date d ≡ n = let e = a_day d century in cc in
          let real : is_date d ≡ true = grind (arith, nat_tests) in
          let low : 2000 ≤ d.year = grind (arith, nat_tests) in
          let high : d.year ≤ 2099 = grind (arith, nat_tests) in
          let f = real_date d real (omega arith) in
          record { century = century; number = number; bounds = rw (sym number) (century_bounds d f low high) }
      | inr other ↦ let e = no_day d other in absurd cc
    ]

-- the fields in the text of a date
pub record HasFields (s : List ℕ) (d : Date) : Type 0 where
  pub long : length s ≡ 10
  pub year : take 4 s ≡ digits 4 d.year
  pub dash : slice_index s 4 ≡ 45
  pub month : take 2 (drop 5 s) ≡ digits 2 d.month
  pub second_dash : slice_index s 7 ≡ 45
  pub day : drop 8 s ≡ digits 2 d.day

pub date_text-fields : (d : Date) → HasFields (date_text d) d
unfolding date_text digits
date_text-fields d = record { long = refl; year = refl; dash = refl; month = refl; second_dash = refl; day = refl }

-- a text of ten characters with two dashes, by its fields
whole : (s : List ℕ) → length s ≡ 10 → slice_index s 4 ≡ 45 → slice_index s 7 ≡ 45 → take 4 s ++ 45 ∷ (take 2 (drop 5 s) ++ 45 ∷ drop 8 s) ≡ s
whole s long dash second_dash =
    let end : drop 7 s ≡ 45 ∷ drop 8 s = drop-cons s 7 0 (omega arith) ∙ ap (λ (c : ℕ). c ∷ drop 8 s) second_dash in
    let seven : drop 2 (drop 5 s) ≡ drop 7 s = drop-drop 2 5 s in
    let middle : take 2 (drop 5 s) ++ 45 ∷ drop 8 s ≡ drop 5 s = ap (λ (t : List ℕ). take 2 (drop 5 s) ++ t) (sym (seven ∙ end)) ∙ take-append-drop 2 (drop 5 s) in
    let front : 45 ∷ drop 5 s ≡ drop 4 s = sym (drop-cons s 4 0 (omega arith) ∙ ap (λ (c : ℕ). c ∷ drop 5 s) dash) in
    ap (λ (t : List ℕ). take 4 s ++ 45 ∷ t) middle ∙ ap (λ (t : List ℕ). take 4 s ++ t) front ∙ take-append-drop 4 s

-- what the test says
record Spells (s : List ℕ) : Type 0 where
  long : length s ≡ 10
  dash : slice_index s 4 ≡ 45
  second_dash : slice_index s 7 ≡ 45
  year : AreDigits (take 4 s)
  month : AreDigits (take 2 (drop 5 s))
  day : AreDigits (drop 8 s)

spells_date : (s : List ℕ) → is_date_text s ≡ true → Spells s
spells_date s h =
    let a = and_parts _ _ h in
    let b = and_parts _ _ a.0 in
    let c = and_parts _ _ b.0 in
    let d = and_parts _ _ c.0 in
    let e = and_parts _ _ d.0 in
    record { long = eqb-true _ _ e.0; dash = eqb-true _ _ e.1; second_dash = eqb-true _ _ d.1; year = c.1; month = b.1; day = a.1 }

again : NumbersAndDigits → (width : ℕ) (s : List ℕ) → length s ≡ width → AreDigits s → digits width (number s) ≡ s
again law width s long plain = ap (λ n. digits n (number s)) (sym long) ∙ law.written s plain

respelled : NumbersAndDigits → (s : List ℕ) → is_date_text s ≡ true
    → digits 4 (number (take 4 s)) ++ 45 ∷ (digits 2 (number (take 2 (drop 5 s))) ++ 45 ∷ digits 2 (number (drop 8 s))) ≡ s
respelled law s h =
    let t = spells_date s h in
    let year = again law 4 (take 4 s) (length-take-le 4 s (omega (arith, t.long))) t.year in
    let month = again law 2 (take 2 (drop 5 s)) (length-take-le 2 (drop 5 s) (omega (arith, t.long, length-drop 5 s))) t.month in
    let day = again law 2 (drop 8 s) (omega (arith, t.long, length-drop 8 s)) t.day in
    (λ i. year i ++ 45 ∷ (month i ++ 45 ∷ day i)) ∙ whole s t.long t.dash t.second_dash

-- a text that spells a date is its text
pub date_in-text : NumbersAndDigits → (s : List ℕ) (d : Date) → date_in s ≡ Some d → date_text d ≡ s
unfolding date_in date_text
date_in-text law s d is =
    elim (cases_Bool (is_date_text s)) [
      | inl spells ↦
          let named : Date = record { year = number (take 4 s); month = number (take 2 (drop 5 s)); day = number (drop 8 s) } in
          let same : named ≡ d = let e : Some named ≡ Some d = rw spells at is in cc in
          ap date_text (sym same) ∙ respelled law s spells
      | inr other ↦ let e : None ≡ Some d = rw other at is in absurd cc
    ]

-- the text of a date spells it
pub text-date_in : NumbersAndDigits → (d : Date) → d.year < 10 ^ 4 → d.month < 10 ^ 2 → d.day < 10 ^ 2 → date_in (date_text d) ≡ Some d
unfolding date_in
text-date_in law d year-fits month-fits day-fits =
    let f = date_text-fields d in
    let year : number (take 4 (date_text d)) ≡ d.year = ap number f.year ∙ law.read 4 d.year year-fits in
    let month : number (take 2 (drop 5 (date_text d))) ≡ d.month = ap number f.month ∙ law.read 2 d.month month-fits in
    let day : number (drop 8 (date_text d)) ≡ d.day = ap number f.day ∙ law.read 2 d.day day-fits in
    let plain : is_date_text (date_text d) ≡ true =
    and_from _ _ (and_from _ _ (and_from _ _ (and_from _ _ (and_from _ _ (eq-eqb _ _ f.long) (eq-eqb _ _ f.dash)) (eq-eqb _ _ f.second_dash))
    (ap (list_all is_digit) f.year ∙ law.plain 4 d.year)) (ap (list_all is_digit) f.month ∙ law.plain 2 d.month)) (ap (list_all is_digit) f.day ∙ law.plain 2 d.day) in
    rw plain (λ i. Some (record { year = year i; month = month i; day = day i }))

-- a day that a text names has the date that it spells
record IsDated (s : List ℕ) (n : ℕ) : Type 0 where
  date : Date
  spelled : date_in s ≡ Some date
  has : HasDay date n

dated : (s : List ℕ) (n : ℕ) → day_of s ≡ Some n → IsDated s n
unfolding day_of
dated s n is = by_date (date_in s) refl is where
  by_date : (o : Option Date) → date_in s ≡ o → option_and_then day_at o ≡ Some n → IsDated s n
  by_date None none is = cc
  by_date (Some d) spelled is = record { date = d; spelled = spelled; has = has_day d n is }

named_date : (d : Date) (n : ℕ) → HasDay d n → date_of_number n ≡ d
named_date d n h =
    let century = h.century in
    let real : is_date d ≡ true = grind (arith, nat_tests) in
    let low : 2000 ≤ d.year = grind (arith, nat_tests) in
    ap date_of_number (sym h.number) ∙ date_of_number-number_of_date d (real_date d real (omega arith))

pub written : NumbersAndDigits → (s : List ℕ) (n : ℕ) → day_of s ≡ Some n → day_text n ≡ s
unfolding day_text
written law s n is = let f = dated s n is in ap date_text (named_date f.date n f.has) ∙ date_in-text law s f.date f.spelled

pub within : (s : List ℕ) (n : ℕ) → day_of s ≡ Some n → IsInRange 10957 47481 n
within s n is = (dated s n is).has.bounds

pub read : NumbersAndDigits → (n : ℕ) → 10957 ≤ n → n ≤ 47481 → day_of (day_text n) ≡ Some n
unfolding day_of day_text
read law n low high =
    let d = date_of_number n in
    let f = names n in
    let years = century_year n low high in
    let long = days_in_month_bounds d.year d.month in
    let century : is_date_of_century d ≡ true = and_from _ _ (is_date_real d f.real) (and_from _ _ (le-leb 2000 d.year years.0) (le-leb d.year 2099 years.1)) in
    ap (option_and_then day_at) (text-date_in law d (omega arith) (omega (arith, f.real.month)) (omega (arith, f.real.day, long))) ∙ a_day d century ∙ ap (λ (k : ℕ). Some k) f.number

pub long : (n : ℕ) → length (day_text n) ≡ 10
unfolding day_text
long n = (date_text-fields (date_of_number n)).long

digits_plain : (s : List ℕ) → list_all is_digit s ≡ true → list_all is_date_character s ≡ true
digits_plain [] h = refl
digits_plain (c ∷ s) h =
    let p = and_parts _ _ h in
    and_from _ _ (or_left _ _ p.0) (digits_plain s p.1)

pub plain : NumbersAndDigits → (n : ℕ) → list_all is_date_character (day_text n) ≡ true
unfolding day_text date_text
plain law n =
    let d = date_of_number n in
    let end = digits_plain (digits 2 d.day) (law.plain 2 d.day) in
    let middle = list_all-append is_date_character (digits 2 d.month) (45 ∷ digits 2 d.day) ∙ and_from _ _ (digits_plain (digits 2 d.month) (law.plain 2 d.month)) end in
    list_all-append is_date_character (digits 4 d.year) (45 ∷ (digits 2 d.month ++ 45 ∷ digits 2 d.day)) ∙ and_from _ _ (digits_plain (digits 4 d.year) (law.plain 4 d.year)) middle

-- the last two digits of a year
last_two : (y : ℕ) → (48 + y % 100 / 10 % 10 ≡ 48 + y / 10 % 10) × (48 + y % 100 % 10 ≡ 48 + y % 10)
last_two y = (omega arith, omega arith)

pub short : (n : ℕ) → day_ymd n ≡ take 2 (drop 2 (day_text n)) ++ take 2 (drop 5 (day_text n)) ++ drop 8 (day_text n)
unfolding day_ymd day_text date_text digits ymd_text
short n =
    let d = date_of_number n in
    let two = last_two d.year in
    (λ i. two.0 i ∷ two.1 i ∷ (digits 2 d.month ++ digits 2 d.day))

parts : (yy mm dd : ℕ) → yy ≤ 99 → IsInRange 1 12 mm → IsInRange 1 31 dd → is_ymd_date yy mm dd ≡ true
parts yy mm dd y m d = grind (arith, nat_tests)

pub valid : NumbersAndDigits → (n : ℕ) → is_ymd (day_ymd n) ≡ true
unfolding day_ymd digits ymd_text spells_ymd
valid law n =
    let d = date_of_number n in
    let f = names n in
    let bounds = days_in_month_bounds d.year d.month in
    let year : number (digits 2 (d.year % 100)) ≡ d.year % 100 = law.read 2 (d.year % 100) (omega arith) in
    let month : number (digits 2 d.month) ≡ d.month = law.read 2 d.month (omega (arith, f.real.month)) in
    let day : number (digits 2 d.day) ≡ d.day = law.read 2 d.day (omega (arith, f.real.day, bounds)) in
    let plain = list_all-append is_digit (digits 2 (d.year % 100) ++ digits 2 d.month) (digits 2 d.day)
    ∙ and_from _ _ (list_all-append is_digit (digits 2 (d.year % 100)) (digits 2 d.month) ∙ and_from _ _ (law.plain 2 (d.year % 100)) (law.plain 2 d.month)) (law.plain 2 d.day) in
    and_from _ _ refl (and_from _ _ plain ((λ i. is_ymd_date (year i) (month i) (day i)) ∙ parts (d.year % 100) d.month d.day (omega arith) f.real.month (omega (arith, f.real.day), omega (arith, f.real.day, bounds))))

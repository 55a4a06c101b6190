-- Which rows make a holiday list, and which fault they have otherwise.
use Rattle.std.proofs.Common.{◌≡◌, ℕ, zero, suc, ◌+◌, ◌-◌, ◌<◌, ◌≤◌, ◌⊎◌, Bool, true, false, nat_lt, cond, arith, refl, sym, ap, subst, ◌∙◌, inl, inr, List, [], ◌∷◌, ◌++◌, length, take, get_or, map, All, Option, Some, None, Ok, Err, append_assoc, append-nil, length-append}
use Rattle.std.proofs.lemmas.Bool.{cases_lt}
use Rattle.std.proofs.lemmas.Bool.Decides.{nat_tests}
use Rattle.std.proofs.Math.ListN.{get_or-append}
use Rattle.std.proofs.lemmas.List.{get_or_push, map-append, take_more, take_all, length-take-le}
use Rattle.std.proofs.lemmas.Option.{slice_get-get_or}
use Rattle.std.specs.List.Sorted.{IsStrictlyIncreasing}
use Rattle.bank_days.specs.declared.calendar_fault.CalendarFault.{CalendarFault}
use Rattle.bank_days.specs.declared.calendar_fault.CalendarFault.TheVariants.{NotAscending, TooMany}
use Rattle.std.specs.List.{AllByRecursion}
use Rattle.std.proofs.lemmas.List.Elements.{All-from_recursion}
use Rattle.bank_days.specs.Calendar.{AreHolidays}
use Rattle.bank_days.specs.HolidayList.{last_of, is_after, row_day, row_fault, rows_in, holidays_of_rows, holidays_in}
use Rattle.bank_days.proofs.DayTexts.{within}
use Rattle.bank_days.specs.Laws.{IsList, IsFirstFault}
use Rattle.bank_days.proofs.HolidayRows.{Taken, last_of-push, taken_none, taken_more, all_taken, fault_row}

-- a higher number after the last
pub increasing_push : (xs : List ℕ) (y : ℕ) → IsStrictlyIncreasing xs → (0 < length xs → get_or xs (length xs - 1) 0 < y) → IsStrictlyIncreasing (xs ++ y ∷ [])
increasing_push xs y h last k lt =
    let long : length (xs ++ y ∷ []) ≡ length xs + 1 = length-append xs (y ∷ []) ∙ refl in
    elim (cases_lt (k + 1) (length xs)) [
      | inl within ↦
          let here = get_or-append xs (y ∷ []) 0 k (omega arith) in
          let next = get_or-append xs (y ∷ []) 0 (k + 1) within in
          rw (here, next) (h k within)
      | inr end ↦
          let same : length xs ≡ k + 1 = omega arith in
          let here = get_or-append xs (y ∷ []) 0 k (omega arith) in
          let next = get_or_push xs y 0 (k + 1) same in
          let before : length xs - 1 ≡ k = omega arith in
          rw (here, next) (subst (λ (i : ℕ). get_or xs i 0 < y) before (last (omega arith)))
    ]

behind_last : (days : List ℕ) (d : ℕ) → 0 < length days → is_after (last_of days) d ≡ true → get_or days (length days - 1) 0 < d
behind_last days d some later =
    let last : last_of days ≡ Some (get_or days (length days - 1) 0) = slice_get-get_or days (length days - 1) 0 (omega arith) in
    let test : nat_lt (get_or days (length days - 1) 0) d ≡ true = rw last at later in
    grind (arith, nat_tests)

-- the facts about a row that may follow these days
record MayFollow (days : List ℕ) (row : Option ℕ) : Type 0 where
  day : ℕ
  is : row ≡ Some day
  ascending : IsStrictlyIncreasing days → IsStrictlyIncreasing (days ++ day ∷ [])
  few : length days < 400

by_tests : (n : ℕ) (d : ℕ) (later full : Bool) → cond later (cond full (Some TooMany) None) (Some (NotAscending n)) ≡ None → (later ≡ true) × (full ≡ false)
by_tests n d true true e = cc
by_tests n d true false e = (refl, refl)
by_tests n d false full e = cc

may_follow : (days : List ℕ) (row : Option ℕ) → row_fault (length days + 1) (last_of days) row ≡ None → MayFollow days row
may_follow days None e = cc
may_follow days (Some d) e =
    let tests = by_tests (length days + 1) d (is_after (last_of days) d) (nat_lt 400 (length days + 1)) e in
    let few : nat_lt 400 (length days + 1) ≡ false = tests.1 in
    record {
      day = d;
      is = refl;
      ascending = λ h. increasing_push days d h (λ some. behind_last days d some tests.0);
      few = grind (arith, nat_tests);
    }

-- the outcome of rows
abbrev Outcome : List (Option ℕ) → Type 0
Outcome rows = ((days : List ℕ) × IsList rows days × (holidays_of_rows rows ≡ Ok days)) ⊎ ((fault : CalendarFault) × IsFirstFault rows fault × (holidays_of_rows rows ≡ Err fault))

cases_fault : (o : Option CalendarFault) → (o ≡ None) ⊎ ((fault : CalendarFault) × (o ≡ Some fault))
cases_fault None = inl refl
cases_fault (Some fault) = inr (fault, refl)

walk : (front : List (Option ℕ)) (held : List ℕ) (rest : List (Option ℕ)) → Taken front held → IsStrictlyIncreasing held → length held ≤ 400 → Outcome (front ++ rest)
walk front held [] t ascending few =
    rw (append-nil front) (inl (held, record { rows_are = t.are; ascending = ascending; few = few }, all_taken front held t))
walk front held (row ∷ rest) t ascending few =
    elim (cases_fault (row_fault (length held + 1) (last_of held) row)) [
      | inl none ↦
          let f = may_follow held row none in
          let fits : row_fault (length held + 1) (last_of held) (Some f.day) ≡ None = rw f.is at none in
          let more = taken_more front held f.day t fits in
          let joined : front ++ Some f.day ∷ [] ++ rest ≡ front ++ row ∷ rest =
          append_assoc front (Some f.day ∷ []) rest ∙ ap (λ (o : Option ℕ). front ++ o ∷ rest) (sym f.is) in
          subst Outcome joined (walk (front ++ Some f.day ∷ []) (held ++ f.day ∷ []) rest more (f.ascending ascending) (omega (arith, length-append held (f.day ∷ []), f.few)))
      | inr some ↦
          inr (
            some.0,
            record {
              front = front;
              days = held;
              row = row;
              more = rest;
              rows_are = refl;
              list = record { rows_are = t.are; ascending = ascending; few = few };
              fault_is = some.1;
            },
            fault_row front rest held row some.0 t some.1,
          )
    ]

outcome : (rows : List (Option ℕ)) → Outcome rows
outcome rows = walk [] [] rows taken_none (λ k lt. absurd (omega arith)) (omega arith)

pub made : (rows : List (Option ℕ)) (days : List ℕ) → holidays_of_rows rows ≡ Ok days → IsList rows days
made rows days e =
    elim (outcome rows) [
      | inl list ↦ let same : list.0 ≡ days = let is = list.2 in cc in subst (λ (d : List ℕ). IsList rows d) same list.1
      | inr fault ↦ let is = fault.2 in absurd cc
    ]

pub refused : (rows : List (Option ℕ)) (fault : CalendarFault) → holidays_of_rows rows ≡ Err fault → IsFirstFault rows fault
refused rows fault e =
    elim (outcome rows) [
      | inl list ↦ let is = list.2 in absurd cc
      | inr first ↦ let same : first.0 ≡ fault = let is = first.2 in cc in subst (λ (f : CalendarFault). IsFirstFault rows f) same first.1
    ]

front_more : (days : List ℕ) (i : ℕ) → i < length days → take (suc i) days ≡ take i days ++ get_or days i 0 ∷ []
front_more days i lt = let next : suc i ≡ i + 1 = omega arith in ap (λ n. take n days) next ∙ take_more days i 0 lt

-- the next of ascending days has no fault
fits_next : (days : List ℕ) (i : ℕ) → IsStrictlyIncreasing days → length days ≤ 400 → i < length days → row_fault (length (take i days) + 1) (last_of (take i days)) (Some (get_or days i 0)) ≡ None
fits_next days zero ascending few lt = refl
fits_next days (suc i) ascending few lt =
    let long : length (take (suc i) days) ≡ suc i = length-take-le (suc i) days (omega arith) in
    let last : last_of (take (suc i) days) ≡ Some (get_or days i 0) = ap last_of (front_more days i (omega arith)) ∙ last_of-push (take i days) (get_or days i 0) in
    let rises : get_or days i 0 < get_or days (i + 1) 0 = ascending i (omega arith) in
    let here : i + 1 ≡ suc i = omega arith in
    let later : nat_lt (get_or days i 0) (get_or days (suc i) 0) ≡ true = subst (λ (n : ℕ). nat_lt (get_or days i 0) (get_or days n 0) ≡ true) here (grind (arith, nat_tests)) in
    let room : nat_lt 400 (suc i + 1) ≡ false = grind (arith, nat_tests) in
    (λ j. row_fault (long j + 1) (last j) (Some (get_or days (suc i) 0))) ∙ rw (later, room) refl

taken_front : (days : List ℕ) (i : ℕ) → IsStrictlyIncreasing days → length days ≤ 400 → i ≤ length days → Taken (map (λ d. Some d) (take i days)) (take i days)
taken_front days zero ascending few le = taken_none
taken_front days (suc i) ascending few le =
    let before = taken_front days i ascending few (omega arith) in
    let more = taken_more (map (λ d. Some d) (take i days)) (take i days) (get_or days i 0) before (fits_next days i ascending few (omega arith)) in
    rw (front_more days i (omega arith), map-append (λ (d : ℕ). Some d) (take i days) (get_or days i 0 ∷ [])) more

pub makes : (rows : List (Option ℕ)) (days : List ℕ) → IsList rows days → holidays_of_rows rows ≡ Ok days
makes rows days h =
    let whole : take (length days) days ≡ days = take_all (length days) days (omega arith) in
    let t = subst (λ (d : List ℕ). Taken (map (λ n. Some n) d) d) whole (taken_front days (length days) h.ascending h.few (omega arith)) in
    rw h.rows_are (all_taken _ days t)

-- the day of a row is one of the years 2000 to 2099
row_bound : (fields : List (List ℕ)) (d : ℕ) → row_day fields ≡ Some d → d ≤ 47_481
row_bound [] d e = cc
row_bound (field ∷ []) d e = (within field d e).1
row_bound (field ∷ other ∷ fields) d e = cc

rows_bound : (records : List (List (List ℕ))) (days : List ℕ) → map row_day records ≡ map (λ d. Some d) days → AllByRecursion (λ h. h ≤ 47_481) days
rows_bound [] [] e = tt
rows_bound [] (d ∷ days) e = cc
rows_bound (r ∷ rs) [] e = cc
rows_bound (r ∷ rs) (d ∷ days) e =
    let first : row_day r ≡ Some d = cc in
    let rest : map row_day rs ≡ map (λ d. Some d) days = cc in
    (row_bound r d first, rows_bound rs days rest)

pub read : (s days : List ℕ) → holidays_in s ≡ Ok days → AreHolidays days × All (λ h. h ≤ 47_481) days
unfolding holidays_in rows_in
read s days e =
    let list = made _ days e in
    let bound : All (λ h. h ≤ 47_481) days = All-from_recursion (λ h. h ≤ 47_481) days (rows_bound _ days list.rows_are) in
    (record { ascending = list.ascending; few = list.few; bounded = λ k d lt. let h : get_or days k d ≤ 47_481 = bound k d lt in omega arith }, bound)

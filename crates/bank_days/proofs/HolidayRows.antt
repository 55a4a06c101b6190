-- Holiday lists, by the rows that were taken so far.
use Rattle.std.proofs.Common.{◌≡◌, ℕ, ◌+◌, ◌-◌, ◌<◌, ◌≤◌, arith, refl, sym, ap, ◌∙◌, List, [], ◌∷◌, ◌++◌, length, take, drop, get_or, map, Option, Some, None, Ok, Err, append_assoc, append-nil, length-append}
use Rattle.std.proofs.lemmas.List.{map-append, get_or_push, take_more, take_all, drop_more, take-append-drop}
use Rattle.std.proofs.lemmas.Option.{slice_get-get_or}
use Rattle.std.specs.List.{filter_map}
use Rattle.std.specs.Option.{option_or}
use Rattle.bank_days.specs.declared.calendar_fault.CalendarFault.{CalendarFault}
use Rattle.bank_days.specs.HolidayList.{last_of, row_fault, first_fault, unless, holidays_of_rows}

pub last_of-push : (days : List ℕ) (d : ℕ) → last_of (days ++ d ∷ []) ≡ Some d
last_of-push days d =
    let one : length (days ++ d ∷ []) - 1 ≡ length days = omega (arith, length-append days (d ∷ [])) in
    slice_get-get_or (days ++ d ∷ []) (length (days ++ d ∷ []) - 1) d (omega (arith, length-append days (d ∷ [])))
    ∙ ap (λ (n : ℕ). Some n) (get_or_push days d d _ (sym one))

-- the days of rows that are days
days-of-rows : (days : List ℕ) → filter_map (λ (row : Option ℕ). row) (map (λ d. Some d) days) ≡ days
days-of-rows [] = refl
days-of-rows (d ∷ days) = ap (λ (t : List ℕ). d ∷ t) (days-of-rows days)

-- the first fault of rows that begin with this one
first_is : (n : ℕ) (before row : Option ℕ) (rows : List (Option ℕ)) → first_fault n before (row ∷ rows) ≡ option_or (row_fault n before row) (first_fault (n + 1) row rows)
unfolding first_fault
first_is n before row rows = refl

-- these rows were taken as these days: the first fault is that of the rows after them
pub record Taken (rows : List (Option ℕ)) (days : List ℕ) : Type 0 where
  pub are : rows ≡ map (λ d. Some d) days
  pub behind : (more : List (Option ℕ)) → first_fault 1 None (rows ++ more) ≡ first_fault (length days + 1) (last_of days) more

pub taken_none : Taken [] []
taken_none = record { are = refl; behind = λ more. refl }

-- one more row
pub taken_more : (rows : List (Option ℕ)) (days : List ℕ) (d : ℕ) → Taken rows days → row_fault (length days + 1) (last_of days) (Some d) ≡ None → Taken (rows ++ Some d ∷ []) (days ++ d ∷ [])
taken_more rows days d t fits =
    let count : length days + 1 + 1 ≡ length (days ++ d ∷ []) + 1 = omega (arith, length-append days (d ∷ [])) in
    record {
      are = ap (λ (r : List (Option ℕ)). r ++ Some d ∷ []) t.are ∙ sym (map-append (λ n. Some n) days (d ∷ []));
      behind = λ more.
          ap (first_fault 1 None) (append_assoc rows (Some d ∷ []) more)
          ∙ t.behind (Some d ∷ more)
          ∙ first_is (length days + 1) (last_of days) (Some d) more
          ∙ ap (λ (fault : Option CalendarFault). option_or fault (first_fault (length days + 1 + 1) (Some d) more)) fits
          ∙ (λ i. first_fault (count i) (sym (last_of-push days d) i) more);
    }

answered : (rows : List (Option ℕ)) (fault : Option CalendarFault) → first_fault 1 None rows ≡ fault → holidays_of_rows rows ≡ unless fault (filter_map (λ row. row) rows)
unfolding holidays_of_rows
answered rows fault e = ap (λ (f : Option CalendarFault). unless f (filter_map (λ row. row) rows)) e

-- a row that has a fault
pub fault_row : (rows more : List (Option ℕ)) (days : List ℕ) (row : Option ℕ) (fault : CalendarFault) → Taken rows days → row_fault (length days + 1) (last_of days) row ≡ Some fault → holidays_of_rows (rows ++ row ∷ more) ≡ Err fault
fault_row rows more days row fault t e =
    answered (rows ++ row ∷ more) (Some fault) (
    t.behind (row ∷ more) ∙ first_is (length days + 1) (last_of days) row more
    ∙ ap (λ (f : Option CalendarFault). option_or f (first_fault (length days + 1 + 1) row more)) e)

nothing : (n : ℕ) (before : Option ℕ) → first_fault n before [] ≡ None
unfolding first_fault
nothing n before = refl

-- no further row
pub all_taken : (rows : List (Option ℕ)) (days : List ℕ) → Taken rows days → holidays_of_rows rows ≡ Ok days
all_taken rows days t =
    answered rows None (ap (first_fault 1 None) (sym (append-nil rows)) ∙ t.behind [] ∙ nothing (length days + 1) (last_of days))
    ∙ ap (λ (r : List (Option ℕ)). Ok (filter_map (λ row. row) r)) t.are ∙ ap (λ (days : List ℕ). Ok days) (days-of-rows days)

-- the same for days that were given
pub days_more : (days held : List ℕ) (i d : ℕ) → Taken (map (λ n. Some n) (take i days)) held → i < length days → d ≡ get_or days i d → row_fault (length held + 1) (last_of held) (Some d) ≡ None
    → Taken (map (λ n. Some n) (take (i + 1) days)) (held ++ d ∷ [])
days_more days held i d t lt is fits =
    let one : take (i + 1) days ≡ take i days ++ d ∷ [] = take_more days i d lt ∙ ap (λ n. take i days ++ n ∷ []) (sym is) in
    rw (one, map-append (λ n. Some n) (take i days) (d ∷ [])) (taken_more _ held d t fits)

pub days_fault : (days held : List ℕ) (i d : ℕ) (fault : CalendarFault) → Taken (map (λ n. Some n) (take i days)) held → i < length days → d ≡ get_or days i d
    → row_fault (length held + 1) (last_of held) (Some d) ≡ Some fault → holidays_of_rows (map (λ n. Some n) days) ≡ Err fault
days_fault days held i d fault t lt is e =
    let rest : take i days ++ d ∷ drop (i + 1) days ≡ days =
    ap (λ n. take i days ++ n ∷ drop (i + 1) days) is ∙ ap (λ s. take i days ++ s) (sym (drop_more days i d lt)) ∙ take-append-drop i days in
    ap (λ s. holidays_of_rows (map (λ n. Some n) s)) (sym rest) ∙ ap holidays_of_rows (map-append (λ n. Some n) (take i days) (d ∷ drop (i + 1) days))
    ∙ fault_row _ (map (λ n. Some n) (drop (i + 1) days)) held (Some d) fault t e

pub days_end : (days held : List ℕ) (i : ℕ) → Taken (map (λ n. Some n) (take i days)) held → length days ≤ i → holidays_of_rows (map (λ n. Some n) days) ≡ Ok held
days_end days held i t end = ap (λ s. holidays_of_rows (map (λ n. Some n) s)) (sym (take_all i days end)) ∙ all_taken _ held t

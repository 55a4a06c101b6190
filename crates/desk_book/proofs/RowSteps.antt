-- The effect of a request, a cut and a return on a company's rows.
use Rattle.std.proofs.Common.{◌≡◌, ℕ, List, [], ◌∷◌, ◌++◌, map, Bool, true, false, ◌||◌, refl, sym, ap, ◌∙◌, if◌then◌else◌}
use Rattle.std.specs.Prelude.{Result, Ok, Err}
use Rattle.std.specs.List.{list_any}
use Rattle.std.proofs.lemmas.List.{map-append}
use Rattle.desk_rules.specs.declared.bodies.company.Limits.{Limits}
use Rattle.desk_rules.specs.declared.refusals.refusal.Refusal.{Refusal}
use Rattle.desk_history.specs.Request as request
use Rattle.desk_history.specs.Request.{Request}
use Rattle.desk_history.specs.Part.{Event, DaySet, HolidaysSet, Registered, Limited, Asked, Changed}
use Rattle.desk_history.specs.Accepted.{AcceptedSubmission, is_called}
use Rattle.desk_history.specs.Acceptance.{submissions, submissions_after, with_accepted, accepted_submission, accepted_retry}
use Rattle.desk_book.specs.Book.{rows, row_of}
use Rattle.desk_book.specs.Standing.{standing, is_row_under, with_row, rows_after_request}
use Rattle.desk_book.specs.RowLaws.{row_of_result, RowSteps}
use Rattle.desk_book.proofs.OnRows.{map_unchanged, submitted_on_rows}
use Rattle.desk_book.proofs.RetriesOnRows.{retried_on_rows}
use Rattle.desk_book.proofs.CutRows.{rows_are_after_cut}
use Rattle.desk_book.proofs.ReturnedRows.{rows_are_after_return}

-- ---- a request

any_map : {X Y : Type 0} (f : X → Y) (p : Y → Bool) (xs : List X) → list_any p (map f xs) ≡ list_any (λ x. p (f x)) xs
any_map f p [] = refl
any_map f p (x ∷ xs) = ap (λ (t : Bool). p (f x) || t) (any_map f p xs)

-- the new row comes after the others
rows_grown : (P : List Event) (A : List AcceptedSubmission) (x : Result AcceptedSubmission Refusal) → map (row_of P) (with_accepted A x) ≡ with_row (map (row_of P) A) (row_of_result P x)
rows_grown P A (Err why) = refl
rows_grown P A (Ok a) = at (list_any (is_called a.content.reference) A) ∙ ap (λ (t : Bool). if t then map (row_of P) A else map (row_of P) A ++ row_of P a ∷ []) (sym (any_map (row_of P) (is_row_under a.content.reference) A)) where
  at : (t : Bool) → map (row_of P) (if t then A else A ++ a ∷ []) ≡ (if t then map (row_of P) A else map (row_of P) A ++ row_of P a ∷ [])
  at true = refl
  at false = map-append (row_of P) A (a ∷ [])

rows_are_after_request : (P : List Event) (r : Request) → rows (Asked r ∷ P) ≡ rows_after_request (standing P) r
rows_are_after_request P r = map_unchanged (Asked r) P (λ p. refl) (λ reference index on. refl) (submissions_after P (submissions P) r) ∙ answered r where
  answered : (r : Request) → map (row_of P) (submissions_after P (submissions P) r) ≡ rows_after_request (standing P) r
  answered (request.Submit d) = rows_grown P (submissions P) (accepted_submission P (submissions P) d) ∙ ap (with_row (rows P)) (submitted_on_rows P d)
  answered (request.Retry d) = rows_grown P (submissions P) (accepted_retry P (submissions P) d) ∙ ap (with_row (rows P)) (retried_on_rows P d)
  answered (request.LookUp reference) = refl
  answered request.Returns = refl
  answered request.Changes = refl
  answered request.Statement = refl
  answered request.Rates = refl
  answered request.Exposure = refl

-- ---- other events

pub rows_after_day : (P : List Event) (d : ℕ) → rows (DaySet d ∷ P) ≡ rows P
rows_after_day P d = map_unchanged (DaySet d) P (λ p. refl) (λ reference index on. refl) (submissions P)

pub rows_after_holidays : (P : List Event) (days : List ℕ) → rows (HolidaysSet days ∷ P) ≡ rows P
rows_after_holidays P days = map_unchanged (HolidaysSet days) P (λ p. refl) (λ reference index on. refl) (submissions P)

pub rows_after_company : (P : List Event) (name digest : List ℕ) (l : Limits) → rows (Registered name digest l ∷ P) ≡ rows P
rows_after_company P name digest l = map_unchanged (Registered name digest l) P (λ p. refl) (λ reference index on. refl) (submissions P)

pub rows_after_limits : (P : List Event) (l : Limits) → rows (Limited l ∷ P) ≡ rows P
rows_after_limits P l = map_unchanged (Limited l) P (λ p. refl) (λ reference index on. refl) (submissions P)

pub rows_after_change : (P : List Event) (reference : List ℕ) (index : ℕ) (code text : List ℕ) → rows (Changed reference index code text ∷ P) ≡ rows P
rows_after_change P reference index code text = map_unchanged (Changed reference index code text) P (λ p. refl) (λ reference index on. refl) (submissions P)

-- ---- the law

pub row_steps : RowSteps
row_steps = record {
  asked = rows_are_after_request;
  cut = rows_are_after_cut;
  returned = rows_are_after_return;
  day = rows_after_day;
  holidays = rows_after_holidays;
  registered = rows_after_company;
  limited = rows_after_limits;
  changed = rows_after_change;
}

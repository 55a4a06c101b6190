-- A company's rows: what is read of what is accepted can be read of them.
use Rattle.std.proofs.Common.{◌≡◌, ◌≤◌, ℕ, zero, suc, ◌+◌, List, [], ◌∷◌, length, map, replicate, Bool, true, false, refl, sym, ap, ◌∙◌, arith, if◌then◌else◌}
use Rattle.std.specs.Prelude.{All, Option, Some, None, option_map, option_and_then, find, zip, Result, Ok, Err}
use Rattle.std.specs.List.{flat_map, range_with_len, enumerate_from}
use Rattle.std.proofs.lemmas.Bool.{le-ltb}
use Rattle.std.proofs.lemmas.List.{length-map}
use Rattle.std.proofs.lemmas.List.Elements.{All-head, All-tail}
use Rattle.std.proofs.lemmas.List.Folds.{flat_map-map}
use Rattle.desk_rules.specs.declared.bodies.company.Limits.{Limits}
use Rattle.desk_rules.specs.declared.bodies.draft.Draft.{Draft}
use Rattle.desk_rules.specs.declared.rules.entry_fact.EntryFact.{EntryFact}
use Rattle.desk_rules.specs.declared.rules.entry_fact.EntryState.{EntryState}
use Rattle.desk_rules.specs.declared.rules.entry_fact.EntryState.TheVariants as states
use Rattle.desk_rules.specs.declared.refusals.refusal.Refusal.{Refusal}
use Rattle.desk_rules.specs.declared.refusals.refusal.Refusal.TheVariants.{RefReused}
use Rattle.desk_rules.specs.declared.bodies.submission.Entry.{Entry}
use Rattle.desk_rules.specs.declared.bodies.submission.Retry.{Retry}
use Rattle.desk_rules.specs.declared.bodies.submission.Submission.{Submission}
use Rattle.desk_rules.specs.Chain.{◌>>=◌}
use Rattle.desk_rules.specs.LimitChecks.{is_debit}
use Rattle.desk_rules.specs.Submission.{submission_of}
use Rattle.desk_book.specs.declared.row.Row.{Row}
use Rattle.desk_history.specs.Part.{Event, DaySet, HolidaysSet, Registered, Limited, Asked, CutMade, Returned, Changed, holidays}
use Rattle.desk_history.specs.State.{Place, decision, is_too_late, original_settlement, TakenReturn, return_of, state_from}
use Rattle.desk_history.specs.Accepted.{AcceptedSubmission, next_submission, settlement_day, state_of}
use Rattle.desk_history.specs.Facts.{entry_fact, fact_of, facts}
use Rattle.desk_history.specs.Acceptance.{submissions, accepted_submission, new_content, new_submission, unless_known, is_same_submission, company_limits, desk_day}
use Rattle.desk_history.specs.Reports.{submission_under, settlement_under}
use Rattle.desk_book.specs.Book.{rows, row_of}
use Rattle.desk_book.specs.Standing.{standing, is_row_under, row_under, row_facts, facts_in, next_row, new_submission_row, submission_row}
use Rattle.desk_book.specs.RowLaws.{row_of_result}

-- ---- facts

facts_from : (P : List Event) (a : AcceptedSubmission) (n : ℕ) (es : List Entry) → map (λ x. fact_of P a x.0 x.1) (enumerate_from n es)
    ≡ map (entry_fact (is_debit a.content.direction)) (zip es (map (state_of P a) (range_with_len n (length es))))
facts_from P a n [] = refl
facts_from P a n (e ∷ es) = ap (λ (more : List EntryFact). fact_of P a n e ∷ more) (facts_from P a (n + 1) es)

pub facts_same : (P : List Event) (A : List AcceptedSubmission) → facts P A ≡ facts_in (map (row_of P) A)
facts_same P A = sym (flat_map-map row_facts (row_of P) A ∙ (λ i. flat_map (λ a. sym (facts_from P a 1 a.content.entries) i) A))

-- ---- look-ups

pub find_map : {X Y : Type 0} (f : X → Y) (p : Y → Bool) (xs : List X) → find p (map f xs) ≡ option_map f (find (λ x. p (f x)) xs)
find_map f p [] = refl
find_map f p (x ∷ xs) = elim (p (f x)) as (λ (t : Bool). (if t then Some (f x) else find p (map f xs)) ≡ option_map f (if t then Some x else find (λ x. p (f x)) xs)) [
  | true ↦ refl
  | false ↦ find_map f p xs
]

pub under : (P : List Event) (reference : List ℕ) → option_map (row_of P) (submission_under P reference) ≡ row_under (rows P) reference
under P reference = sym (find_map (row_of P) (is_row_under reference) (submissions P))

pub settled_on_rows : (P : List Event) (reference : List ℕ) → settlement_under P reference ≡ option_and_then (λ row. row.settled) (row_under (rows P) reference)
settled_on_rows P reference = at (submission_under P reference) ∙ ap (option_and_then (λ row. row.settled)) (under P reference) where
  at : (o : Option AcceptedSubmission) → option_and_then (settlement_day P) o ≡ option_and_then (λ row. row.settled) (option_map (row_of P) o)
  at None = refl
  at (Some a) = refl

-- ---- the row of what is accepted next

-- what comes later is not decided
pub not_decided : (P : List Event) (p : Place) → length P ≤ p.before → decision P p ≡ None
not_decided [] p h = refl
not_decided (DaySet d ∷ P) p h = not_decided P p (omega arith)
not_decided (HolidaysSet days ∷ P) p h = not_decided P p (omega arith)
not_decided (Registered name digest l ∷ P) p h = not_decided P p (omega arith)
not_decided (Limited l ∷ P) p h = not_decided P p (omega arith)
not_decided (Asked r ∷ P) p h = not_decided P p (omega arith)
not_decided (CutMade ∷ P) p h = rw (not_decided P p (omega arith), le-ltb p.before (length P) (omega arith)) refl
not_decided (Returned r i code information ∷ P) p h = not_decided P p (omega arith)
not_decided (Changed r i code text ∷ P) p h = not_decided P p (omega arith)

all_held : (n from : ℕ) → map (λ (index : ℕ). states.Held) (range_with_len from n) ≡ replicate n states.Held
all_held zero from = refl
all_held (suc n) from = ap (λ (more : List EntryState). states.Held ∷ more) (all_held n (from + 1))

-- a row by the days on which it and its original were decided, and by the returns of its entries
abbrev pub row_by : AcceptedSubmission → Option ℕ → Option ℕ → (List ℕ → ℕ → Option ℕ → Option TakenReturn) → Row
row_by a o original back =
    let late = is_too_late o original in
    let on = if late then None else o in
    record {
      order = a.order;
      content = a.content;
      retry = a.retry;
      settled = on;
      lapsed = late;
      states = map (λ index. state_from late on (back a.content.reference index on)) (range_with_len 1 (length a.content.entries));
    }

pub row_is_next : (P : List Event) (s : Submission) (retry : Option Retry) (original : Option Place) → row_of P (next_submission P (submissions P) s retry original) ≡ next_row (rows P) s retry
row_is_next P s retry original =
    let a = next_submission P (submissions P) s retry original in
    ap (λ (o : Option ℕ). row_by a o (original_settlement P original) (return_of P)) (not_decided P a.place (omega arith))
    ∙ (λ i. record {
      order = sym (length-map (submissions P) (row_of P)) i + 1;
      content = s;
      retry = retry;
      settled = None;
      lapsed = false;
      states = all_held (length s.entries) 1 i;
    })

-- ---- rows that an event does not change

pub original_unchanged : (e : Event) (P : List Event) → ((p : Place) → decision (e ∷ P) p ≡ decision P p) → (o : Option Place) → original_settlement (e ∷ P) o ≡ original_settlement P o
original_unchanged e P same None = refl
original_unchanged e P same (Some p) = same p

-- an event that decides nothing and returns nothing
pub map_unchanged : (e : Event) (P : List Event) → ((p : Place) → decision (e ∷ P) p ≡ decision P p) → ((reference : List ℕ) (index : ℕ) (on : Option ℕ) → return_of (e ∷ P) reference index on ≡ return_of P reference index on)
    → (A : List AcceptedSubmission) → map (row_of (e ∷ P)) A ≡ map (row_of P) A
map_unchanged e P same back A = (λ i. map (λ a. row_by a (same a.place i) (original_unchanged e P same a.original i) (λ reference index on. back reference index on i)) A)

-- rows that are each changed alike
pub mapped_alike : {X Y : Type 0} (f : X → Y) (g : Y → Y) (h : X → Y) (xs : List X) → All (λ x. f x ≡ g (h x)) xs → map f xs ≡ map g (map h xs)
mapped_alike f g h [] same = refl
mapped_alike f g h (x ∷ xs) same = (λ i. All-head (λ x. f x ≡ g (h x)) x xs same i ∷ mapped_alike f g h xs (All-tail (λ x. f x ≡ g (h x)) x xs same) i)

-- ---- verdicts

-- a chain of checks, step by step
pub chained : {X : Type 0} (P : List Event) (x : Result X Refusal) (f : X → Result AcceptedSubmission Refusal) (g : X → Result Row Refusal)
    → ((a : X) → x ≡ Ok a → row_of_result P (f a) ≡ g a) → row_of_result P (x >>= f) ≡ (x >>= g)
chained P (Ok a) f g same = same a refl
chained P (Err why) f g same = refl

pub known_same : (P : List Event) (same : Row → Bool) (o : Option AcceptedSubmission) (fresh : Result AcceptedSubmission Refusal)
    → row_of_result P (unless_known (λ a. same (row_of P a)) o fresh) ≡ unless_known same (option_map (row_of P) o) (row_of_result P fresh)
known_same P same None fresh = refl
known_same P same (Some a) fresh = at (same (row_of P a)) where
  at : (t : Bool) → row_of_result P (if t then Ok a else Err RefReused) ≡ (if t then Ok (row_of P a) else Err RefReused)
  at true = refl
  at false = refl

new_same : (P : List Event) (l : Limits) (today : ℕ) (s : Submission) → row_of_result P (new_submission P (submissions P) l today s) ≡ new_submission_row (standing P) l today s
new_same P l today s =
    ap (λ (facts : List EntryFact). row_of_result P (new_content facts (holidays P) l today s >>= (λ s. Ok (next_submission P (submissions P) s None None)))) (facts_same P (submissions P))
    ∙ chained P (new_content (facts_in (rows P)) (holidays P) l today s) _ _ (λ content _. ap Ok (row_is_next P content None None))

pub submitted_on_rows : (P : List Event) (d : Draft) → row_of_result P (accepted_submission P (submissions P) d) ≡ submission_row (standing P) d
submitted_on_rows P d =
    chained P (company_limits P) _ _ (λ l _.
    chained P (desk_day P) _ _ (λ today _.
    chained P (submission_of d) _ _ (λ s _.
    known_same P (λ row. is_same_submission s row.content row.retry) (submission_under P s.reference) (new_submission P (submissions P) l today s)
    ∙ (λ i. unless_known (λ row. is_same_submission s row.content row.retry) (under P s.reference i) (new_same P l today s i)))))

-- The effect of returned and changed rows on a company's rows, returns and changes.
use Rattle.std.proofs.Common.{◌≡◌, ℕ, ◌+◌, List, [], ◌∷◌, ◌++◌, length, map, Bool, true, false, ◌==◌, refl, sym, ap, ◌∙◌}
use Rattle.std.specs.Prelude.{Ok, if◌then◌else◌, Option, Some, None, option_and_then, unwrap_or, bytes_eq}
use Rattle.std.specs.List.{enumerate_from, range_with_len}
use Rattle.std.proofs.lemmas.List.Elements.{All-weaker}
use Rattle.std.proofs.lemmas.Slice.Eq.{bytes_eq-Decides}
use Rattle.ach_files.specs.declared.facts.ItemFacts.{ItemFacts}
use Rattle.desk_rules.specs.declared.rules.entry_fact.EntryState.{EntryState}
use Rattle.desk_rules.specs.Deadlines.{is_late}
use Rattle.desk_history.specs.declared.reports.ChangeRow.{ChangeRow}
use Rattle.desk_history.specs.declared.reports.ReturnRow.{ReturnRow}
use Rattle.desk_book.specs.declared.row.Row.{Row}
use Rattle.desk_history.specs.declared.sent_entry.SentEntry.{SentEntry}
use Rattle.desk_history.specs.Part.{Event, Returned, holidays, today}
use Rattle.desk_history.specs.State.{TakenReturn, return_of, state_from}
use Rattle.desk_history.specs.Accepted.{AcceptedSubmission, settlement_day, has_lapsed, state_of}
use Rattle.desk_history.specs.Acceptance.{submissions}
use Rattle.desk_book.specs.Book.{rows, row_of}
use Rattle.desk_history.specs.Possible.{IsPossible}
use Rattle.desk_history.specs.Reports.{submission_under, settlement_under, return_row, returns, changes}
use Rattle.desk_history.specs.Resolve.{ResolvedItem, event_of}
use Rattle.desk_book.specs.RowLaws.{RowSteps}
use Rattle.desk_history.specs.SentLaws.{IsEntryOf}
use Rattle.desk_book.specs.Standing as standing
use Rattle.desk_book.specs.Standing.{returned_state}
use Rattle.desk_history.proofs.Acceptance.Growing.{settled_parts}
use Rattle.desk_book.proofs.OnRows.{mapped_alike}
use Rattle.desk_history.proofs.Acceptance.Ordered.{IsFound, found_each}
use Rattle.desk_history.proofs.Sent.Resolving.{event_holds}
use Rattle.desk_book.specs.declared.flat_rows.ChangedRow.{ChangedRow}
use Rattle.desk_book.specs.declared.flat_rows.ReturnedRow.{ReturnedRow}
use Rattle.desk_book.specs.Steps.{returned_state_by, returned_row_by}
use Rattle.desk_book.specs.OnIntake.{returned_row_of, returned_row, changed_row_of, changed_row}
use Rattle.desk_book.proofs.IntakeItems.{step_by, StepsWith}

-- ---- what a row of a file makes of one company

abbrev pub rows_back : List ℕ → List Row → ReturnedRow → List Row
rows_back c rs x = if bytes_eq x.company c then map (returned_row_by x) rs else rs

abbrev pub with_return : List ℕ → List ReturnRow → ReturnedRow → List ReturnRow
with_return c xs x = if bytes_eq x.company c then xs ++ x.row ∷ [] else xs

abbrev pub with_change : List ℕ → List ChangeRow → ChangedRow → List ChangeRow
with_change c xs x = if bytes_eq x.company c then xs ++ x.row ∷ [] else xs

-- ---- the rows

-- the row of a return of an entry
abbrev back_of : List ℕ → ℕ → SentEntry → ℕ → List ℕ → ReturnedRow
back_of days d e code information = record {
  company = e.company;
  order = e.order;
  row = record { code = code; day = d; index = e.index; info = information; late = is_late code e.settled d days; reference = e.reference };
}

-- the states of a submission, each by its number, under two changes that are alike there
states_alike : (f g : ℕ → EntryState → EntryState) (h : ℕ → EntryState) → ((i k : ℕ) → f i (h k) ≡ g i (h k)) → (from : ℕ) (ks : List ℕ)
    → map (λ y. f y.0 y.1) (enumerate_from from (map h ks)) ≡ map (λ y. g y.0 y.1) (enumerate_from from (map h ks))
states_alike f g h same from [] = refl
states_alike f g h same from (k ∷ ks) = (λ i. same from k i ∷ states_alike f g h same (from + 1) ks i)

-- whether the return of an entry is late follows from its settlement day
state_alike : (days : List ℕ) (d : ℕ) (e : SentEntry) (code : ℕ) (information : List ℕ) (late : Bool) (settles : Option ℕ) (t : Option TakenReturn) → late ≡ false → settles ≡ Some e.settled
    → returned_state days d code (state_from late settles t) ≡ returned_state_by (back_of days d e code information) (state_from late settles t)
state_alike days d e code information late settles t stands sent = rw (stands, sent) (by t) where
  by : (t : Option TakenReturn) → returned_state days d code (state_from false (Some e.settled) t) ≡ returned_state_by (back_of days d e code information) (state_from false (Some e.settled) t)
  by None = refl
  by (Some t) = refl

row_alike : (days : List ℕ) (d : ℕ) (P : List Event) (e : SentEntry) (code : ℕ) (information : List ℕ) (a : AcceptedSubmission) → IsEntryOf P e → IsFound P a
    → standing.returned_row days d e.reference e.index code (row_of P a) ≡ returned_row_by (back_of days d e code information) (row_of P a)
row_alike days d P e code information a is found =
    by (bytes_eq a.content.reference e.reference) refl
  where
    own : bytes_eq a.content.reference e.reference ≡ true → settlement_day P a ≡ Some e.settled
    own same =
        let called : Some a ≡ Some is.accepted = sym found ∙ ap (submission_under P) ((bytes_eq-Decides a.content.reference e.reference).0 same) ∙ is.called in
        let itself : a ≡ is.accepted = cc in
        ap (settlement_day P) itself ∙ is.settles

    x : ReturnedRow
    x = back_of days d e code information

    with_states : List EntryState → Row
    with_states states = record (row_of P a) { states = states }

    by : (t : Bool) → bytes_eq a.content.reference e.reference ≡ t
        → (if t then with_states (map (λ y. if y.0 == e.index then returned_state days d code y.1 else y.1) (enumerate_from 1 (row_of P a).states)) else row_of P a)
        ≡ (if t then with_states (map (λ y. if y.0 == e.index then returned_state_by x y.1 else y.1) (enumerate_from 1 (row_of P a).states)) else row_of P a)
    by true same =
        let settles = own same in
        let stands = (settled_parts P a e.settled settles).0 in
        ap with_states
        (states_alike (λ i s. if i == e.index then returned_state days d code s else s) (λ i s. if i == e.index then returned_state_by x s else s) (state_of P a)
        (λ i k. ap (λ (s : EntryState). if i == e.index then s else state_of P a k) (state_alike days d e code information (has_lapsed P a) (settlement_day P a) (return_of P a.content.reference k (settlement_day P a)) stands settles))
        1 (range_with_len 1 (length a.content.entries)))
    by false other = refl

-- ---- the steps

module _ (c : List ℕ) (d : ℕ) (days : List ℕ) where
  rows_after : RowSteps → (P : List Event) (e : SentEntry) (code : ℕ) (information : List ℕ) → IsEntryOf P e → today P ≡ d → holidays P ≡ days
      → IsPossible (Returned e.reference e.index code information ∷ P)
      → rows (Returned e.reference e.index code information ∷ P) ≡ map (returned_row_by (back_of days d e code information)) (rows P)
  rows_after steps P e code information is on off possible =
      let return_of = standing.returned_row days d e.reference e.index code in
      let back = returned_row_by (back_of days d e code information) in
      steps.returned P e.reference e.index code information possible
      ∙ (λ i. map (standing.returned_row (off i) (on i) e.reference e.index code) (rows P))
      ∙ sym (mapped_alike (λ a. return_of (row_of P a)) return_of (row_of P) (submissions P) (λ _ _ _. refl))
      ∙ mapped_alike (λ a. return_of (row_of P a)) back (row_of P) (submissions P)
      (All-weaker (IsFound P) (λ a. return_of (row_of P a) ≡ back (row_of P a))
      (λ a found. row_alike days d P e code information a is found) (submissions P) (found_each P))

  -- a return of an entry of another company makes no step
  other_returned : {A : Type 0} (step : A → ReturnedRow → A) → ((a : A) (x : ReturnedRow) → bytes_eq x.company c ≡ false → step a x ≡ a)
      → (a : A) (x : ResolvedItem) (item : ItemFacts) → event_of x.entry item ≡ Some x.event → bytes_eq x.entry.company c ≡ false
      → step_by step a (returned_row days d (Ok x)) ≡ a
  other_returned step none a x item gives differ =
      event_holds (λ event. step_by step a (returned_row_of days d x.entry event) ≡ a) x.entry item x.event gives
      (λ code information within. none a (back_of days d x.entry code information) differ)
      (λ code text. refl)

  company_is : (e : SentEntry) → e.company ≡ c → bytes_eq e.company c ≡ true
  company_is e = (bytes_eq-Decides e.company c).1

  pub rows_steps : RowSteps → StepsWith c rows (returned_row days d) (rows_back c) d days
  rows_steps steps = record {
    none = λ why. refl;
    own = λ P x item gives company is on off possible.
        event_holds (λ event. IsPossible (event ∷ P) → rows (event ∷ P) ≡ step_by (rows_back c) (rows P) (returned_row_of days d x.entry event)) x.entry item x.event gives
        (λ code information within possible.
        rows_after steps P x.entry code information is on off possible
        ∙ ap (λ (t : Bool). if t then map (returned_row_by (back_of days d x.entry code information)) (rows P) else rows P) (sym (company_is x.entry company)))
        (λ code text _. steps.changed P x.entry.reference x.entry.index code text)
        possible;
    other = other_returned (rows_back c) (λ rs x differ. ap (λ (t : Bool). if t then map (returned_row_by x) rs else rs) differ);
  }

  -- the return of an entry as the company reads it
  return_after : (P : List Event) (e : SentEntry) (code : ℕ) (information : List ℕ) → IsEntryOf P e → today P ≡ d → holidays P ≡ days
      → return_row P e.reference e.index code information ≡ (back_of days d e code information).row
  return_after P e code information is on off =
      let settles : settlement_under P e.reference ≡ Some e.settled = ap (option_and_then (settlement_day P)) is.called ∙ is.settles in
      (λ i. record { code = code; day = on i; index = e.index; info = information; late = is_late code (unwrap_or (settles i) 0) (on i) (off i); reference = e.reference })

  pub returns_steps : StepsWith c returns (returned_row days d) (with_return c) d days
  returns_steps = record {
    none = λ why. refl;
    own = λ P x item gives company is on off possible.
        event_holds (λ event. returns (event ∷ P) ≡ step_by (with_return c) (returns P) (returned_row_of days d x.entry event)) x.entry item x.event gives
        (λ code information within.
        ap (λ (row : ReturnRow). returns P ++ row ∷ []) (return_after P x.entry code information is on off)
        ∙ ap (λ (t : Bool). if t then returns P ++ (back_of days d x.entry code information).row ∷ [] else returns P) (sym (company_is x.entry company)))
        (λ code text. refl);
    other = other_returned (with_return c) (λ xs x differ. ap (λ (t : Bool). if t then xs ++ x.row ∷ [] else xs) differ);
  }

  abbrev change_of : SentEntry → List ℕ → List ℕ → ℕ → ChangeRow
  change_of e code text day = record { code = code; day = day; index = e.index; reference = e.reference; text = text }

  pub changes_steps : StepsWith c changes (changed_row d) (with_change c) d days
  changes_steps = record {
    none = λ why. refl;
    own = λ P x item gives company is on off possible.
        event_holds (λ event. changes (event ∷ P) ≡ step_by (with_change c) (changes P) (changed_row_of d x.entry event)) x.entry item x.event gives
        (λ code information within. refl)
        (λ code text.
        ap (λ (day : ℕ). changes P ++ change_of x.entry code text day ∷ []) on
        ∙ ap (λ (t : Bool). if t then changes P ++ change_of x.entry code text d ∷ [] else changes P) (sym (company_is x.entry company)));
    other = λ a x item gives differ.
        event_holds (λ event. step_by (with_change c) a (changed_row_of d x.entry event) ≡ a) x.entry item x.event gives
        (λ code information within. refl)
        (λ code text. ap (λ (t : Bool). if t then a ++ change_of x.entry code text d ∷ [] else a) differ);
  }

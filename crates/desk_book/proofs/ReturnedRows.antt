-- The effect of a return on a company's rows.
use Rattle.std.proofs.Common.{◌≡◌, ℕ, zero, suc, ◌+◌, List, ◌∷◌, length, map, Bool, true, false, ◌&&◌, ◌==◌, refl, sym, ap, ◌∙◌, inl, inr, if◌then◌else◌}
use Rattle.std.specs.Prelude.{Option, Some, None, bytes_eq}
use Rattle.std.specs.List.{range_with_len, enumerate_from}
use Rattle.std.proofs.lemmas.Bool.{cases_Bool}
use Rattle.std.proofs.lemmas.Bool.Decides.{Decides-eqb}
use Rattle.std.proofs.lemmas.List.Elements.{All-weaker}
use Rattle.std.proofs.lemmas.Slice.Eq.{bytes_eq-Decides}
use Rattle.desk_rules.specs.declared.rules.entry_fact.EntryState.{EntryState}
use Rattle.desk_book.specs.declared.row.Row.{Row}
use Rattle.desk_history.specs.Words.{or_else}
use Rattle.desk_history.specs.Part.{Event, Returned, holidays, today}
use Rattle.desk_history.specs.State.{TakenReturn, decision, original_settlement, new_return, return_of, is_returned, state_from}
use Rattle.desk_history.specs.Accepted.{AcceptedSubmission, settlement_day, has_lapsed, state_of}
use Rattle.desk_history.specs.Acceptance.{submissions}
use Rattle.desk_history.specs.Reports.{submission_under}
use Rattle.desk_book.specs.Book.{rows, row_of}
use Rattle.desk_book.specs.Standing.{standing, returned_state, returned_row, rows_after_return}
use Rattle.desk_history.specs.Possible.{IsFirstReturn, IsPossible}
use Rattle.desk_history.proofs.Basics.Elements.{texts_turned, numbers_turned}
use Rattle.desk_history.proofs.Acceptance.Growing.{settled_parts}
use Rattle.desk_history.proofs.Acceptance.Ordered.{IsFound, found_each}
use Rattle.desk_book.proofs.OnRows.{row_by, mapped_alike, original_unchanged}
use Rattle.desk_book.proofs.Unreturned.{not_returned}

kept : (o : Option TakenReturn) → or_else o None ≡ o
kept None = refl
kept (Some t) = refl

-- the states of a row after a return of its entry with this number
states_from : (f g : ℕ → EntryState) (h : ℕ → EntryState → EntryState) → ((index : ℕ) → g index ≡ h index (f index)) → (n from : ℕ)
    → map g (range_with_len from n) ≡ map (λ x. h x.0 x.1) (enumerate_from from (map f (range_with_len from n)))
states_from f g h same zero from = refl
states_from f g h same (suc n) from = (λ i. same from i ∷ states_from f g h same n (from + 1) i)

-- one entry of a submission that settled
state_returned : (P : List Event) (reference : List ℕ) (i code index : ℕ) (on : ℕ) (late : Bool) (settles : Option ℕ) → late ≡ false → settles ≡ Some on → is_returned P reference i ≡ false
    → state_from late settles (or_else (return_of P reference index settles) (if i == index then Some (new_return P code settles) else None))
    ≡ (if index == i then returned_state (holidays P) (today P) code (state_from late settles (return_of P reference index settles)) else state_from late settles (return_of P reference index settles))
state_returned P reference i code index on late settles stands sent first = elim (cases_Bool (index == i)) [
  | inl own ↦
      let same : index ≡ i = (Decides-eqb index i).0 own in
      let turned : (i == index) ≡ true = numbers_turned i index ∙ own in
      let none : return_of P reference index (Some on) ≡ None = ap (λ (k : ℕ). return_of P reference k (Some on)) same ∙ not_returned P reference i (Some on) first in
      rw (stands, sent, own, turned, none) refl
  | inr other ↦
      let turned : (i == index) ≡ false = numbers_turned i index ∙ other in
      rw (other, turned) (ap (state_from late settles) (kept (return_of P reference index settles)))
]

-- the returns of a submission's entries after one more, by whether that is of the submission
abbrev back_with : List Event → ℕ → ℕ → Bool → List ℕ → ℕ → Option ℕ → Option TakenReturn
back_with P i code own reference index on = or_else (return_of P reference index on) (if own && i == index then Some (new_return P code on) else None)

abbrev row_back : List Event → ℕ → ℕ → AcceptedSubmission → Bool → Option ℕ → Row
row_back P i code a own original = row_by a (decision P a.place) original (back_with P i code own)

is_row_back : (P : List Event) (reference : List ℕ) (i code : ℕ) (information : List ℕ) (a : AcceptedSubmission) (own : Bool) → bytes_eq a.content.reference reference ≡ own
    → row_of (Returned reference i code information ∷ P) a ≡ row_back P i code a own (original_settlement P a.original)
is_row_back P reference i code information a own is =
    (λ j. row_back P i code a ((texts_turned reference a.content.reference ∙ is) j) (original_unchanged (Returned reference i code information) P (λ p. refl) a.original j))

row_back_own : (P : List Event) (reference : List ℕ) (i code : ℕ) (a : AcceptedSubmission) → IsFirstReturn P reference i code → IsFound P a → a.content.reference ≡ reference
    → row_back P i code a true (original_settlement P a.original) ≡ record (row_of P a) { states = map (λ x. if x.0 == i then returned_state (holidays P) (today P) code x.1 else x.1) (enumerate_from 1 (row_of P a).states) }
row_back_own P reference i code a returns found same =
    let called : Some a ≡ Some returns.of.accepted = sym found ∙ ap (submission_under P) same ∙ returns.of.called in
    let itself : a ≡ returns.of.accepted = cc in
    let settles : settlement_day P a ≡ Some returns.of.on = ap (settlement_day P) itself ∙ returns.of.sent in
    let stands = (settled_parts P a returns.of.on settles).0 in
    let first : is_returned P a.content.reference i ≡ false = ap (λ (r : List ℕ). is_returned P r i) same ∙ returns.first in
    ap (λ (xs : List EntryState). record (row_of P a) { states = xs })
    (states_from (state_of P a) _ (λ index s. if index == i then returned_state (holidays P) (today P) code s else s)
    (λ index. state_returned P a.content.reference i code index returns.of.on (has_lapsed P a) (settlement_day P a) stands settles first) (length a.content.entries) 1)

row_back_other : (P : List Event) (i code : ℕ) (a : AcceptedSubmission) → row_back P i code a false (original_settlement P a.original) ≡ row_of P a
row_back_other P i code a =
    ap (λ (xs : List EntryState). record (row_of P a) { states = xs })
    (λ j. map (λ index. state_from (has_lapsed P a) (settlement_day P a) (kept (return_of P a.content.reference index (settlement_day P a)) j)) (range_with_len 1 (length a.content.entries)))

row_returned : (P : List Event) (reference : List ℕ) (i code : ℕ) (information : List ℕ) (a : AcceptedSubmission) → IsFirstReturn P reference i code → IsFound P a
    → row_of (Returned reference i code information ∷ P) a ≡ returned_row (holidays P) (today P) reference i code (row_of P a)
row_returned P reference i code information a returns found =
    let after = λ (row : Row). record row { states = map (λ x. if x.0 == i then returned_state (holidays P) (today P) code x.1 else x.1) (enumerate_from 1 row.states) } in
    elim (cases_Bool (bytes_eq a.content.reference reference)) [
      | inl own ↦
          is_row_back P reference i code information a true own
          ∙ row_back_own P reference i code a returns found ((bytes_eq-Decides a.content.reference reference).0 own)
          ∙ ap (λ (t : Bool). if t then after (row_of P a) else row_of P a) (sym own)
      | inr other ↦
          is_row_back P reference i code information a false other
          ∙ row_back_other P i code a
          ∙ ap (λ (t : Bool). if t then after (row_of P a) else row_of P a) (sym other)
    ]

pub rows_are_after_return : (P : List Event) (reference : List ℕ) (i code : ℕ) (information : List ℕ) → IsPossible (Returned reference i code information ∷ P)
    → rows (Returned reference i code information ∷ P) ≡ rows_after_return (standing P) reference i code
rows_are_after_return P reference i code information possible =
    mapped_alike (row_of (Returned reference i code information ∷ P)) (returned_row (holidays P) (today P) reference i code) (row_of P) (submissions P)
    (All-weaker (IsFound P) (λ a. row_of (Returned reference i code information ∷ P) a ≡ returned_row (holidays P) (today P) reference i code (row_of P a))
    (λ a found. row_returned P reference i code information a possible.0 found) (submissions P) (found_each P))

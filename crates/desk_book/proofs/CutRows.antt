-- The effect of a cut on a company's rows.
use Rattle.std.proofs.Common.{◌≡◌, ℕ, List, [], ◌∷◌, length, map, Bool, true, false, not, ◌&&◌, refl, sym, ap, ◌∙◌, if◌then◌else◌}
use Rattle.std.specs.Prelude.{All, Option, Some, None, option_and_then, is_none}
use Rattle.std.specs.List.{range_with_len}
use Rattle.std.proofs.lemmas.Bool.{lt-ltb}
use Rattle.std.proofs.lemmas.Simd.{map-map}
use Rattle.desk_rules.specs.declared.rules.entry_fact.EntryState.{EntryState}
use Rattle.desk_rules.specs.declared.rules.entry_fact.EntryState.TheVariants as states
use Rattle.desk_rules.specs.declared.bodies.submission.Retry.{Retry}
use Rattle.desk_book.specs.declared.row.Row.{Row}
use Rattle.desk_history.specs.Words.{or_else}
use Rattle.desk_history.specs.Part.{Event, CutMade, holidays, today}
use Rattle.desk_history.specs.State.{decision, is_due, next_settlement, is_too_late, original_settlement, return_of, state_from}
use Rattle.desk_history.specs.Accepted.{AcceptedSubmission, is_called, settlement_day, has_lapsed}
use Rattle.desk_history.specs.Acceptance.{submissions}
use Rattle.desk_history.specs.AcceptedLaws.{IsPlaced, IsLinked, IsLinkedTo}
use Rattle.desk_history.specs.Reports.{settlement_under}
use Rattle.desk_book.specs.Book.{rows, row_of}
use Rattle.desk_book.specs.Standing.{standing, is_held, is_due_row, settlement_of, original_of_row, sent_row, lapsed_row, decided_row, cut_row, rows_after_cut}
use Rattle.desk_history.specs.Possible.{IsPossible}
use Rattle.desk_history.proofs.Acceptance.Growing.{found_holds, settled_from, original_stays}
use Rattle.desk_history.proofs.Acceptance.Named.{named_parts}
use Rattle.desk_history.proofs.Acceptance.Ordered.{IsFound, found_each, places}
use Rattle.desk_history.proofs.Acceptance.Linked.{plain_stands, originals}
use Rattle.desk_book.proofs.Unreturned.{none_returned}
use Rattle.desk_book.proofs.OnRows.{settled_on_rows, row_by, mapped_alike}

-- ---- the day on which a retry's original settled, by the rows

original_on_rows_to : (P : List Event) (a : AcceptedSubmission) (retry : Option Retry) → IsLinkedTo P a retry → original_of_row (rows P) retry ≡ original_settlement P a.original
original_on_rows_to P a None linked = ap (original_settlement P) (sym linked)
original_on_rows_to P a (Some r) linked =
    let o = linked.original in
    let named = named_parts (submissions P) r o linked.named in
    let stands = plain_stands P o.accepted named.plain (found_holds (IsLinked P) (is_called r.of) (submissions P) o.accepted (originals P) named.found) in
    let settles : settlement_under P r.of ≡ Some linked.on = ap (option_and_then (settlement_day P)) named.found ∙ settled_from P o.accepted linked.on stands linked.settles in
    sym (settled_on_rows P r.of) ∙ settles ∙ sym (ap (original_settlement P) linked.place ∙ linked.settles)

pub original_on_rows : (P : List Event) (a : AcceptedSubmission) → IsLinked P a → original_of_row (rows P) a.retry ≡ original_settlement P a.original
original_on_rows P a linked = original_on_rows_to P a a.retry linked

-- ---- one row

sent_states : (P : List Event) (reference : List ℕ) (on : ℕ) → ((index : ℕ) → return_of P reference index (Some on) ≡ None) → (s : ℕ → EntryState) (xs : List ℕ)
    → map (λ index. state_from false (Some on) (return_of P reference index (Some on))) xs ≡ map (λ (s : EntryState). states.Sent on) (map s xs)
sent_states P reference on none s [] = refl
sent_states P reference on none s (x ∷ xs) = (λ i. state_from false (Some on) (none x i) ∷ sent_states P reference on none s xs i)

decided_by : (P : List Event) (a : AcceptedSubmission) (on : ℕ) (original : Option ℕ) → ((index : ℕ) → return_of P a.content.reference index (Some on) ≡ None)
    → row_by a (Some on) original (return_of P) ≡ decided_row on original (row_by a None original (return_of P))
decided_by P a on original none = at (is_too_late (Some on) original) where
  numbers : List ℕ
  numbers = range_with_len 1 (length a.content.entries)

  held : ℕ → EntryState
  held index = state_from false None (return_of P a.content.reference index None)

  at : (late : Bool) → record {
    order = a.order;
    content = a.content;
    retry = a.retry;
    settled = if late then None else Some on;
    lapsed = late;
    states = map (λ index. state_from late (if late then None else Some on) (return_of P a.content.reference index (if late then None else Some on))) numbers;
  } ≡ (if late then lapsed_row (row_by a None original (return_of P)) else sent_row on (row_by a None original (return_of P)))
  at true = ap (λ (xs : List EntryState). record { order = a.order; content = a.content; retry = a.retry; settled = None; lapsed = true; states = xs }) (sym (map-map (λ (s : EntryState). states.Lapsed) held numbers))
  at false = ap (λ (xs : List EntryState). record { order = a.order; content = a.content; retry = a.retry; settled = Some on; lapsed = false; states = xs }) (sent_states P a.content.reference on none held numbers)

done_already : (late due : Bool) (d : ℕ) (row other : Row) → row ≡ (if (is_none (if late then None else Some d) && not late) && due then other else row)
done_already true due d row other = refl
done_already false due d row other = refl

cut_by : (P : List Event) (a : AcceptedSubmission) (o original : Option ℕ) (due : Bool) (on : ℕ) → (o ≡ None → (index : ℕ) → return_of P a.content.reference index (Some on) ≡ None)
    → row_by a (or_else o (if due then Some on else None)) original (return_of P) ≡ (if is_held (row_by a o original (return_of P)) && due then decided_row on original (row_by a o original (return_of P)) else row_by a o original (return_of P))
cut_by P a None original false on none = refl
cut_by P a None original true on none = decided_by P a on original (none refl)
cut_by P a (Some d) original due on none = done_already (is_too_late (Some d) original) due d (row_by a (Some d) original (return_of P)) _

undecided : (late : Bool) (o : Option ℕ) → o ≡ None → (if late then None else o) ≡ None
undecided true o h = refl
undecided false o h = h

due_same : (P : List Event) (a : AcceptedSubmission) → IsPlaced (length P) a → is_due (holidays P) (today P) a.place.debit a.place.asked ≡ is_due_row (holidays P) (today P) (row_of P a)
due_same P a placed = (λ i. is_due (holidays P) (today P) (placed.debit i) (placed.asked i))

settlement_same : (P : List Event) (a : AcceptedSubmission) → IsPlaced (length P) a → next_settlement (holidays P) (today P) a.place.asked ≡ settlement_of (holidays P) (today P) (row_of P a)
settlement_same P a placed = ap (next_settlement (holidays P) (today P)) placed.asked

row_cut : (P : List Event) (a : AcceptedSubmission) → IsPossible P → IsPlaced (length P) a → IsLinked P a → IsFound P a → row_of (CutMade ∷ P) a ≡ cut_row (holidays P) (today P) (rows P) (row_of P a)
row_cut P a possible placed linked found =
    let o = decision P a.place in
    let f = original_settlement P a.original in
    let row = row_of P a in
    let held : o ≡ None → settlement_under P a.content.reference ≡ None = λ none. ap (option_and_then (settlement_day P)) found ∙ undecided (has_lapsed P a) o none in
    (λ i. row_by a (or_else o (if lt-ltb a.place.before (length P) placed.before i && due_same P a placed i then Some (settlement_same P a placed i) else None)) (original_stays CutMade P a linked i) (return_of P))
    ∙ cut_by P a o f (is_due_row (holidays P) (today P) row) (settlement_of (holidays P) (today P) row) (λ none index. none_returned P a.content.reference index _ possible (held none))
    ∙ ap (λ (original : Option ℕ). if is_held row && is_due_row (holidays P) (today P) row then decided_row (settlement_of (holidays P) (today P) row) original row else row) (sym (original_on_rows P a linked))

-- ---- all rows

-- of each three facts give a fourth
all_joined : {X : Type 0} (A B C D : X → Type 0) → ((x : X) → A x → B x → C x → D x) → (xs : List X) → All A xs → All B xs → All C xs → All D xs
all_joined A B C D joined xs a b c = λ k d within. joined _ (a k d within) (b k d within) (c k d within)

pub rows_are_after_cut : (P : List Event) → IsPossible P → rows (CutMade ∷ P) ≡ rows_after_cut (standing P)
rows_are_after_cut P possible =
    mapped_alike (row_of (CutMade ∷ P)) (cut_row (holidays P) (today P) (rows P)) (row_of P) (submissions P)
    (all_joined (IsPlaced (length P)) (IsLinked P) (IsFound P) (λ a. row_of (CutMade ∷ P) a ≡ cut_row (holidays P) (today P) (rows P) (row_of P a)) (λ a. row_cut P a possible) (submissions P) (places P) (originals P) (found_each P))

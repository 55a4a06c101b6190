-- The book determines whether an entry is returned.
use Rattle.std.proofs.Common.{◌≡◌, ◌<◌, ℕ, ◌-◌, List, length, Bool, false, refl, sym, ap, ◌∙◌}
use Rattle.std.specs.Prelude.{Option, Some, None, option_map, is_some}
use Rattle.std.proofs.lemmas.Option.{slice_get_within}
use Rattle.desk_book.specs.declared.row.Row.{Row}
use Rattle.desk_history.specs.declared.sent_entry.SentEntry.{SentEntry}
use Rattle.desk_history.specs.Part.{Event}
use Rattle.desk_history.specs.State.{TakenReturn, return_of, is_returned, state_from}
use Rattle.desk_history.specs.Accepted.{settlement_day, has_lapsed}
use Rattle.desk_history.specs.Acceptance.{submissions}
use Rattle.desk_book.specs.Book.{rows, row_of}
use Rattle.desk_book.specs.RowLaws.{VerdictsOnRows}
use Rattle.desk_history.specs.SentLaws.{IsEntryOf}
use Rattle.desk_book.specs.Standing.{row_under}
use Rattle.desk_history.proofs.Acceptance.Growing.{found_reference, settled_parts}
use Rattle.desk_book.proofs.RetriesOnRows.{state_same}
use Rattle.desk_book.proofs.Unreturned.{returned_whenever}
use Rattle.desk_book.specs.OnIntake.{is_returned_state, is_returned_in}

-- the state of a sent entry says whether it has a return
back_by_state : (late : Bool) (settles : Option ℕ) (on : ℕ) (t : Option TakenReturn) → late ≡ false → settles ≡ Some on
    → is_returned_state (state_from late settles t) ≡ is_some t
back_by_state late settles on t stands sent = rw (stands, sent) (by t) where
  by : (t : Option TakenReturn) → is_returned_state (state_from false (Some on) t) ≡ is_some t
  by None = refl
  by (Some t) = refl

back_by_row : (P : List Event) (e : SentEntry) (is : IsEntryOf P e) → is_returned_in (Some (row_of P is.accepted)) e.index ≡ is_returned P e.reference e.index
back_by_row P e is =
    let a = is.accepted in
    let within : e.index - 1 < length a.content.entries = slice_get_within a.content.entries (e.index - 1) e.entry is.at in
    ap is_returned_state (state_same P a e.index is.from within)
    ∙ back_by_state (has_lapsed P a) (settlement_day P a) e.settled (return_of P a.content.reference e.index (settlement_day P a)) (settled_parts P a e.settled is.settles).0 is.settles
    ∙ returned_whenever P a.content.reference e.index (settlement_day P a) None
    ∙ ap (λ (reference : List ℕ). is_returned P reference e.index) (found_reference (submissions P) e.reference a is.called)

pub back_on_rows : VerdictsOnRows → (P : List Event) (e : SentEntry) → IsEntryOf P e
    → is_returned_in (row_under (rows P) e.reference) e.index ≡ is_returned P e.reference e.index
back_on_rows verdicts P e is =
    ap (λ (o : Option Row). is_returned_in o e.index) (sym (verdicts.under P e.reference) ∙ ap (option_map (row_of P)) is.called)
    ∙ back_by_row P e is

-- The counts of a file's rows.
use Rattle.std.proofs.Common.{◌≡◌, ◌∙◌, sym, refl, ℕ, ◌+◌, List, [], ◌∷◌, length, map, Bool, false, cond, arith}
use Rattle.std.specs.Prelude.{◌&&◌, not, count_by, filter_map, is_some, Option, Some, None, Result, Ok, Err}
use Rattle.std.specs.List.{cons_option, enumerate_from}
use Rattle.std.proofs.lemmas.List.Sums.{sum_by-cons}
use Rattle.desk_history.specs.declared.operations.SuspenseReason.{SuspenseReason}
use Rattle.desk_history.specs.Intake.{is_event, is_late_return, is_late_event, is_return_taken, is_returned_event, suspense_row}
use Rattle.desk_book.specs.declared.flat_rows.ReturnedRow.{ReturnedRow}
use Rattle.desk_book.specs.OnIntake.{changed_row_of, changed_row, returned_row_of, returned_row}
use Rattle.desk_intake.specs.declared.judged_item.JudgedItem.{JudgedItem}
use Rattle.desk_intake.specs.declared.matched_item.MatchedItem.{MatchedItem}
use Rattle.desk_intake.specs.declared.matched_item.Reaction.{Reaction}
use Rattle.desk_intake.specs.declared.matched_item.Reaction.TheVariants as reactions
use Rattle.desk_intake.specs.Resolutions.{event_as, judged_as, resolution_as, resolution_of}

-- ---- how many are made of a list

length_kept : {Y : Type 0} (o : Option Y) (ys : List Y) → length (cons_option o ys) ≡ cond (is_some o) 1 0 + length ys
length_kept None ys = omega arith
length_kept (Some y) ys = omega arith

made : {J X Y : Type 0} (h : X → Option Y) (p : X → Bool) (f : J → X) → ((j : J) → is_some (h (f j)) ≡ p (f j))
    → (js : List J) → length (filter_map h (map f js)) ≡ count_by p (map f js)
made h p f same [] = refl
made h p f same (j ∷ js) =
    length_kept (h (f j)) (filter_map h (map f js))
    ∙ (λ i. cond (same j i) 1 0 + made h p f same js i)
    ∙ sym (sum_by-cons (λ x. cond (p x) 1 0) (f j) (map f js))

-- ---- returns and changes

is_returned : (holidays : List ℕ) (d : ℕ) (o : Result MatchedItem SuspenseReason) → is_some (returned_row holidays d (resolution_as o)) ≡ is_return_taken (resolution_as o)
is_returned holidays d (Err why) = refl
is_returned holidays d (Ok x) = by x.reaction where
  by : (r : Reaction) → is_some (returned_row_of holidays d x.entry (event_as x.entry r)) ≡ is_returned_event (event_as x.entry r)
  by (reactions.Return code information) = refl
  by (reactions.Change code text) = refl

is_changed : (d : ℕ) (o : Result MatchedItem SuspenseReason) → is_some (changed_row d (resolution_as o)) ≡ (is_event (resolution_as o) && not (is_return_taken (resolution_as o)))
is_changed d (Err why) = refl
is_changed d (Ok x) = by x.reaction where
  by : (r : Reaction) → is_some (changed_row_of d x.entry (event_as x.entry r)) ≡ not (is_returned_event (event_as x.entry r))
  by (reactions.Return code information) = refl
  by (reactions.Change code text) = refl

pub returns_counted : (holidays : List ℕ) (d : ℕ) (js : List JudgedItem)
    → length (filter_map (returned_row holidays d) (map resolution_of js)) ≡ count_by is_return_taken (map resolution_of js)
returns_counted holidays d js = made (returned_row holidays d) is_return_taken resolution_of (λ j. is_returned holidays d j.outcome) js

pub changes_counted : (d : ℕ) (js : List JudgedItem)
    → length (filter_map (changed_row d) (map resolution_of js)) ≡ count_by (λ o. is_event o && not (is_return_taken o)) (map resolution_of js)
changes_counted d js = made (changed_row d) (λ o. is_event o && not (is_return_taken o)) resolution_of (λ j. is_changed d j.outcome) js

-- ---- returns after their deadline

abbrev late_rows : List ReturnedRow → ℕ
late_rows rows = count_by (λ r. r.row.late) rows

abbrev is_late_made : Option ReturnedRow → Bool
is_late_made None = false
is_late_made (Some r) = r.row.late

late_kept : (o : Option ReturnedRow) (rows : List ReturnedRow) → late_rows (cons_option o rows) ≡ cond (is_late_made o) 1 0 + late_rows rows
late_kept None rows = omega arith
late_kept (Some r) rows = sum_by-cons (λ (r : ReturnedRow). cond r.row.late 1 0) r rows

is_late : (holidays : List ℕ) (d : ℕ) (o : Result MatchedItem SuspenseReason) → is_late_made (returned_row holidays d (resolution_as o)) ≡ is_late_return holidays d (resolution_as o)
is_late holidays d (Err why) = refl
is_late holidays d (Ok x) = by x.reaction where
  by : (r : Reaction) → is_late_made (returned_row_of holidays d x.entry (event_as x.entry r)) ≡ is_late_event holidays d x.entry.settled (event_as x.entry r)
  by (reactions.Return code information) = refl
  by (reactions.Change code text) = refl

pub late_counted : (holidays : List ℕ) (d : ℕ) (js : List JudgedItem)
    → late_rows (filter_map (returned_row holidays d) (map resolution_of js)) ≡ count_by (is_late_return holidays d) (map resolution_of js)
late_counted holidays d [] = refl
late_counted holidays d (j ∷ js) =
    late_kept (returned_row holidays d (resolution_of j)) (filter_map (returned_row holidays d) (map resolution_of js))
    ∙ (λ i. cond (is_late holidays d j.outcome i) 1 0 + late_counted holidays d js i)
    ∙ sym (sum_by-cons (λ o. cond (is_late_return holidays d o) 1 0) (resolution_of j) (map resolution_of js))

-- ---- suspense

is_suspended : (key : List ℕ) (d number : ℕ) (j : JudgedItem) → is_some (suspense_row key d number j.item (resolution_of j)) ≡ not (is_event (resolution_of j))
is_suspended key d number j = by j.outcome where
  by : (o : Result MatchedItem SuspenseReason) → is_some (suspense_row key d number j.item (resolution_as o)) ≡ not (is_event (resolution_as o))
  by (Err why) = refl
  by (Ok x) = refl

pub suspense_counted : (key : List ℕ) (d number : ℕ) (js : List JudgedItem)
    → length (filter_map (λ y. suspense_row key d y.0 y.1.0 y.1.1) (enumerate_from number (map judged_as js))) ≡ count_by (λ o. not (is_event o)) (map resolution_of js)
suspense_counted key d number [] = refl
suspense_counted key d number (j ∷ js) =
    length_kept (suspense_row key d number j.item (resolution_of j)) _
    ∙ (λ i. cond (is_suspended key d number j i) 1 0 + suspense_counted key d (number + 1) js i)
    ∙ sym (sum_by-cons (λ o. cond (not (is_event o)) 1 0) (resolution_of j) (map resolution_of js))

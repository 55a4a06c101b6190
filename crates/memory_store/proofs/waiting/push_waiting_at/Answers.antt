use Rattle.std.proofs.Common.{◌∙◌, ◌++◌, Bool, [], ◌∷◌, ap, sym, map}
use Rattle.std.specs.Prelude.{if◌then◌else◌}
use Rattle.std.proofs.lemmas.List.{append-nil}
use Rattle.desk_book.specs.Reads.{held_submission}
use Rattle.desk_book.specs.declared.held_submission.HeldSubmission.{HeldSubmission}
use Rattle.memory_store.specs.Finds.{rows_for}
use Rattle.memory_store.specs.Kept.{row_in}
use Rattle.memory_store.specs.declared.entries.RowFilter.TheVariants as filters
use Rattle.memory_store.proofs.Placed.{passing_here, passing_past}
use Rattle.memory_store.proofs.waiting.push_waiting_at.Goals as goal

pub returns-in_ok-push : goal.returns-in_ok-push
returns-in_ok-push c = λ finds.
    let k = c.args.company.now in
    let found = c.args.found.now.items in
    let kept = c.args.kept.now in
    let one = c.index-kept-place.result in
    let held = held_submission k (rows_for kept k.id) in
    let here = passing_here kept c.args.place one k.id filters.Held c.if-place-kept.true c.index-kept-place.is ∙ ap (λ (t : Bool). if t then (row_in one).row ∷ [] else []) (sym c.passes_of.ensures ∙ c.if-passes_of.true) in
    c.in_ok-push.ensures.items
    ∙ ap (λ (x : HeldSubmission). found ++ x ∷ []) (c.in_ok-waiting_like.ensures finds)
    ∙ sym (ap (λ rows. found ++ map held rows) here)

pub returns-else-passes_of : goal.returns-else-passes_of
returns-else-passes_of c = λ finds.
    let k = c.args.company.now in
    let found = c.args.found.now.items in
    let kept = c.args.kept.now in
    let one = c.index-kept-place.result in
    let held = held_submission k (rows_for kept k.id) in
    let none = passing_here kept c.args.place one k.id filters.Held c.if-place-kept.true c.index-kept-place.is ∙ ap (λ (t : Bool). if t then (row_in one).row ∷ [] else []) (sym c.passes_of.ensures ∙ c.if-passes_of.false) in
    sym (append-nil found) ∙ sym (ap (λ rows. found ++ map held rows) none)

pub returns-else-place-kept : goal.returns-else-place-kept
returns-else-place-kept c = λ finds.
    let k = c.args.company.now in
    let found = c.args.found.now.items in
    let held = held_submission k (rows_for c.args.kept.now k.id) in
    sym (append-nil found) ∙ sym (ap (λ rows. found ++ map held rows) (passing_past c.args.kept.now c.args.place k.id filters.Held c.if-place-kept.false))

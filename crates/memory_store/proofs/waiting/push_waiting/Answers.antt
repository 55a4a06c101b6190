use Rattle.std.proofs.Common.{◌≡◌, ◌∙◌, ◌+◌, ◌++◌, ◌∷◌, ℕ, List, ap, sym, map, drop, get_or, append_assoc}
use Rattle.std.specs.Prelude.{filter}
use Rattle.std.proofs.lemmas.List.{drop_more, map-append}
use Rattle.desk_book.specs.Reads.{held_submission}
use Rattle.desk_book.specs.Standing.{is_held}
use Rattle.desk_book.specs.declared.held_submission.HeldSubmission.{HeldSubmission}
use Rattle.memory_store.specs.Finds.{passing_at, rows_for}
use Rattle.memory_store.specs.Placed.{picked}
use Rattle.memory_store.specs.declared.entries.RowFilter.TheVariants as filters
use Rattle.memory_store.proofs.Placed.{passing_more}
use Rattle.memory_store.proofs.waiting.push_waiting.Goals as goal

pub loop-place-preserved : goal.loop-place-preserved
loop-place-preserved c = λ finds.
    let k = c.args.company.now in
    let kept = c.args.kept.now in
    let places = c.args.places.now in
    let at = c.loop-place.place-index in
    let found = c.loop-place.found.items in
    let place = get_or places at 0 in
    let later = drop (at + 1) places in
    let split : drop at places ≡ place ∷ later = drop_more places at 0 c.loop-place-test.true in
    let held = held_submission k (rows_for kept k.id) in
    let here = passing_at kept place k.id filters.Held in
    let rest = filter is_held (rows_for (picked kept later) k.id) in
    ap (λ (xs : List HeldSubmission). xs ++ map held rest) (c.in_ok-push_waiting_at.ensures finds)
    ∙ append_assoc found (map held here) (map held rest)
    ∙ ap (λ (xs : List HeldSubmission). found ++ xs) (sym (map-append held here rest) ∙ ap (map held) (sym (passing_more kept place later k.id filters.Held)))
    ∙ ap (λ (ps : List ℕ). found ++ map held (filter is_held (rows_for (picked kept ps) k.id))) (sym split)
    ∙ c.loop-place.invariant finds

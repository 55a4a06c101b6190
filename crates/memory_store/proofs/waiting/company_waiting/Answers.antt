use Rattle.std.proofs.Common.{◌∙◌, ◌++◌, List, ap, map}
use Rattle.std.specs.Prelude.{filter}
use Rattle.desk_book.specs.Reads.{held_submission}
use Rattle.desk_book.specs.Standing.{is_held}
use Rattle.desk_book.specs.declared.held_submission.HeldSubmission.{HeldSubmission}
use Rattle.memory_store.specs.Finds.{rows_for}
use Rattle.memory_store.specs.Placed.{picked}
use Rattle.memory_store.proofs.HeldRows.{waiting_all}
use Rattle.memory_store.proofs.waiting.company_waiting.Goals as goal

pub returns : goal.returns
returns c = λ find.
    let k = c.args.company.now in
    let kept = c.args.kept.now in
    let places = c.of-places.result.now in
    let waits = map (held_submission k (rows_for kept k.id)) (filter is_held (rows_for (picked kept places) k.id)) in
    c.in_ok-push_waiting.ensures find.originals
    ∙ ap (λ (xs : List HeldSubmission). xs ++ waits) c.new-found.ensures.items
    ∙ waiting_all k kept c.args.index.now c.args.references.now c.whole.result places find c.whole.ensures c.of-places.ensures

use Rattle.std.proofs.Common.{◌∙◌, ap, map, sym}
use Rattle.std.specs.Prelude.{option_and_then}
use Rattle.desk_book.specs.Standing.{original_of_row}
use Rattle.desk_book.specs.declared.row.Row.{Row}
use Rattle.memory_store.specs.Finds.{rows_for}
use Rattle.memory_store.specs.Kept.{row_in}
use Rattle.memory_store.specs.Placed.{under}
use Rattle.memory_store.specs.declared.place_index.KeyKind.TheVariants as kinds
use Rattle.memory_store.proofs.Placed.{standing, under_all}
use Rattle.memory_store.proofs.waiting.original_settlement.Goals as goal

pub returns-in-Some : goal.returns-in-Some
returns-in-Some c = λ finds.
    let kept = c.args.kept.now in
    let reference = c.in-Some.retry.of in
    let places = c.of-places.result.now in
    c.settlement_of.ensures
    ∙ ap (option_and_then (λ (row : Row). row.settled)) (c.submission_among.ensures
    ∙ under_all reference c.args.company kept places (standing kinds.Reference c.under.result (under c.args.company reference) (map row_in kept) c.args.references.now places c.under.ensures finds c.of-places.ensures))
    ∙ ap (original_of_row (rows_for kept c.args.company)) (sym c.in-Some.is)

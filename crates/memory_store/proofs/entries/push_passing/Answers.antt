use Rattle.std.proofs.Common.{◌∙◌, ◌++◌, List, Bool, [], ◌∷◌, ap, sym}
use Rattle.std.specs.Prelude.{if◌then◌else◌}
use Rattle.std.proofs.lemmas.List.{append-nil}
use Rattle.desk_book.specs.declared.row.Row.{Row}
use Rattle.memory_store.specs.Kept.{row_in}
use Rattle.memory_store.proofs.Placed.{passing_here, passing_past}
use Rattle.memory_store.proofs.entries.push_passing.Goals as goal

pub returns-else-passes_of : goal.returns-else-passes_of
returns-else-passes_of c =
    let rows = c.args.rows.now.items in
    let one = c.index-kept-place.result in
    let none = passing_here c.args.kept.now c.args.place one c.args.company c.args.which.now c.if-place-kept.true c.index-kept-place.is ∙ ap (λ (t : Bool). if t then (row_in one).row ∷ [] else []) (sym c.passes_of.ensures ∙ c.if-passes_of.false) in
    sym (append-nil rows) ∙ ap (λ (more : List Row). rows ++ more) (sym none)

pub returns-else-place-kept : goal.returns-else-place-kept
returns-else-place-kept c =
    let rows = c.args.rows.now.items in
    sym (append-nil rows) ∙ ap (λ (more : List Row). rows ++ more) (sym (passing_past c.args.kept.now c.args.place c.args.company c.args.which.now c.if-place-kept.false))

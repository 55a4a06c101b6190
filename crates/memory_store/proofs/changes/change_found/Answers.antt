use Rattle.std.proofs.Common.{◌≡◌, ◌∙◌, ap, sym, map, drop, List, [], ℕ}
use Rattle.std.proofs.lemmas.List.{drop_all}
use Rattle.memory_store.specs.Kept.{row_in}
use Rattle.memory_store.proofs.Changed.{changed_all, changed_found}
use Rattle.memory_store.proofs.Placed.{standing}
use Rattle.memory_store.proofs.changes.change_found.Goals as goal

pub returns : goal.returns
returns g c = λ finds.
    let kind = g.C.Change.kind in
    let key = g.C.Change.key c.args.change.now in
    let makes = g.C.Change.makes c.args.change.now in
    let rows = map row_in c.args.kept.now in
    let places = c.of-places.result.now in
    let none : drop c.loop-place.place-index places ≡ [] = drop_all c.loop-place.place-index places c.loop-place-test.false in
    sym (ap (λ (ps : List ℕ). changed_all ps makes (map row_in c.loop-place.kept)) none)
    ∙ c.loop-place.invariant
    ∙ ap (λ (ps : List ℕ). changed_all ps makes rows) (standing kind c.key.result key rows c.args.index.now places c.key.ensures finds c.of-places.ensures)
    ∙ changed_found kind key makes (g.met.C.Change.keyed c.args.change.now) rows

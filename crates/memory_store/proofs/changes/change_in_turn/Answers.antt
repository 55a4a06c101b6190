use Rattle.std.proofs.Common.{◌∙◌, ◌+◌, ap, sym, map, drop, ◌∷◌}
use Rattle.std.proofs.lemmas.List.{drop_more}
use Rattle.desk_store.specs.Changes.{in_turn}
use Rattle.memory_store.specs.Kept.{row_in}
use Rattle.memory_store.proofs.Changed.{finds_after}
use Rattle.memory_store.proofs.changes.change_in_turn.Goals as goal

pub loop-change-preserved : goal.loop-change-preserved
loop-change-preserved g c =
    let kind = g.C.Change.kind in
    let makes = g.C.Change.makes in
    let changes = c.args.changes.now in
    let at = c.loop-change.change-index in
    let change = c.change-item.result in
    let rows = map row_in c.loop-change.kept in
    record {
      made = λ finds.
          ap (in_turn makes (drop (at + 1) changes)) (c.change_found.ensures (c.loop-change.invariant.found finds))
          ∙ sym (ap (λ xs. in_turn makes xs rows) (drop_more changes at change c.loop-change-test.true ∙ ap (λ x. x ∷ drop (at + 1) changes) (sym c.change-item.is)))
          ∙ c.loop-change.invariant.made finds;
      found = λ finds.
          finds_after kind (g.C.Change.key change) (makes change) (g.met.C.Change.keyed change) rows _ c.args.index.now (c.change_found.ensures (c.loop-change.invariant.found finds)) (c.loop-change.invariant.found finds);
    }

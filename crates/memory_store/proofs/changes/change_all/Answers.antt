use Rattle.std.proofs.Common.{◌≡◌, ◌∙◌, ◌++◌, List, ap, sym, subst, map, take, drop, length, arith}
use Rattle.std.proofs.lemmas.List.{take_at}
use Rattle.desk_store.specs.Changes.{in_turn}
use Rattle.memory_store.specs.Kept.{row_in}
use Rattle.memory_store.specs.Placed.{FindsAll}
use Rattle.memory_store.specs.declared.list_store.KeptSubmission.{KeptSubmission}
use Rattle.memory_store.proofs.changes.change_all.Goals as goal

pub returns-clause-made : goal.returns-clause-made
returns-clause-made g c = λ finds.
    let kind = g.C.Change.kind in
    let old = c.args.kept.now in
    let new = c.change_in_turn.new.kept in
    let own = c.deref_mut.ensures.value in
    let long : length new ≡ old.len = omega arith in
    let all : take old.len (new ++ drop (length new) old.items) ≡ new = take_at new (drop (length new) old.items) old.len long in
    ap (map row_in) all
    ∙ c.change_in_turn.ensures.made (subst (λ (xs : List KeptSubmission). FindsAll kind (map row_in xs) c.args.index.now) (sym own) finds)
    ∙ ap (λ (xs : List KeptSubmission). in_turn g.C.Change.makes c.args.changes.now (map row_in xs)) own

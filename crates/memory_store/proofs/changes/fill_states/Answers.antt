use Rattle.std.proofs.lemmas.List.Edits.{map_over_more}
use Rattle.memory_store.proofs.changes.fill_states.Goals as goal

pub loop-one-preserved : goal.loop-one-preserved
loop-one-preserved c =
    let states = c.loop-one.states in
    let at = c.loop-one.one-index in
    map_over_more (λ _. c.args.state.now) c.args.states.now states at c.one-item.result c.loop-one-test.true c.loop-one.invariant c.one-item.is

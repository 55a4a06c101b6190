use Rattle.std.proofs.Common.{◌≡◌, ◌++◌, drop, take, map}
use Rattle.memory_store.proofs.changes.fill_states.Given as goal

abbrev pub invariant-loop-one : goal.invariant-loop-one
invariant-loop-one l = l.states ≡ map (λ _. l.state) (take l.one-index l.fn.states) ++ drop l.one-index l.fn.states

use Rattle.std.proofs.Common.{◌-◌, drop, length}
use Rattle.remembering_store.proofs.Registering.{HasAll}
use Rattle.remembering_store.proofs.registry.Registry.of.Given as goal

abbrev pub invariant-loop-done : goal.invariant-loop-done
invariant-loop-done l = HasAll l.by_key (drop (length l.companies - l.done) l.companies)

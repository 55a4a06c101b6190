use Rattle.std.proofs.Common.{◌≡◌, ◌++◌, drop, take, map}
use Rattle.desk_history.specs.History.{with_limits}
use Rattle.memory_store.proofs.writes.limit_each.Given as goal

abbrev pub invariant-loop-company : goal.invariant-loop-company
invariant-loop-company l = l.companies ≡ map (with_limits l.id l.limits) (take l.company-index l.fn.companies) ++ drop l.company-index l.fn.companies

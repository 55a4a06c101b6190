use Rattle.std.proofs.Common.{◌≡◌, drop}
use Rattle.std.specs.Prelude.{find}
use Rattle.desk_history.specs.Operator.{has_id}
use Rattle.memory_store.proofs.reads.company_among.Given as goal

abbrev pub invariant-loop-company : goal.invariant-loop-company
invariant-loop-company l = find (has_id l.id) (drop l.company-index l.companies) ≡ find (has_id l.id) l.companies

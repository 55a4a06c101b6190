use Rattle.std.proofs.Common.{◌≡◌, ◌++◌, drop, take}
use Rattle.desk_rules.specs.declared.bodies.company.Company.{Company}
use Rattle.desk_history.specs.History.{with_company}
use Rattle.memory_store.proofs.writes.place_of.Given as goal

abbrev pub invariant-loop-company : goal.invariant-loop-company
invariant-loop-company l = record {
  at : l.at ≡ l.company-index;
  place : (k : Company) → k.id ≡ l.id → take l.company-index l.companies ++ with_company k (drop l.company-index l.companies) ≡ with_company k l.companies;
}

use Rattle.std.proofs.Common.{◌≡◌, take, map}
use Rattle.sql_tables.specs.Composed.{fact_among}
use Rattle.sql_tables.proofs.parts.facts_from.Given as goal

abbrev pub invariant-loop-amount : goal.invariant-loop-amount
invariant-loop-amount l = record {
  so_far : l.facts.items ≡ map (fact_among l.head l.returns) (take l.amount-index l.amounts);
  debit : l.debit ≡ Rattle.desk_rules.specs.LimitChecks.is_debit l.head.direction;
}

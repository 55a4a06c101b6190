use Rattle.std.proofs.Common.{rules, ap}
use Rattle.sql_statements.proofs.Findings.{finds_as}
use Rattle.sql_queries.proofs.registry.operator_key.Goals as goal

pub returns : goal.returns
returns g c = record {
  answer = λ clean. finds_as _ _ _ (λ t e. ap (λ d. d.operator_key) e) _ (c.in_ok-found.ensures.answer clean);
  stays = search rules;
  survives = search rules;
}

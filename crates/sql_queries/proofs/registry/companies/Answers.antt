use Rattle.std.proofs.Common.{rules}
use Rattle.std.proofs.lemmas.Result.{IfOk-weaker}
use Rattle.sql_queries.proofs.RegistryShown.{companies_shown}
use Rattle.sql_query_laws.proofs.Found.{all_found}
use Rattle.sql_query_laws.proofs.Injective.{company_rows}
use Rattle.sql_query_laws.proofs.Texts.{companies_is}
use Rattle.sql_queries.proofs.registry.companies.Goals as goal

pub all_of-requires : goal.all_of-requires
all_of-requires g c = companies_is.selects

pub returns : goal.returns
returns g c = record {
  answer = λ clean. IfOk-weaker c.all_of.result _ _ (λ x read. all_found _ company_rows companies_shown read) (c.all_of.ensures.answer clean);
  stays = search rules;
  survives = search rules;
}

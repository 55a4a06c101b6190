use Rattle.std.proofs.Common.{rules}
use Rattle.std.proofs.lemmas.Result.{IfOk-weaker}
use Rattle.sql_queries.proofs.RegistryShown.{company_shown}
use Rattle.sql_query_laws.proofs.Found.{first_found}
use Rattle.sql_query_laws.proofs.Injective.{company_rows}
use Rattle.sql_query_laws.proofs.Texts.{company_is}
use Rattle.sql_queries.proofs.registry.company.Goals as goal

pub first_of-requires : goal.first_of-requires
first_of-requires g c = company_is.selects

pub returns : goal.returns
returns g c = record {
  answer = λ clean. IfOk-weaker c.first_of.result _ _ (λ x read. first_found _ company_rows (company_shown c.args.id) (rw (c.characters.ensures, c.bytes.ensures.value) at read)) (c.first_of.ensures.answer clean);
  stays = search rules;
  survives = search rules;
}

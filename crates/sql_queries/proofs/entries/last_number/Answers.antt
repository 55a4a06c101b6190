use Rattle.std.proofs.Common.{rules}
use Rattle.std.proofs.lemmas.Result.{IfOk-weaker}
use Rattle.sql_query_laws.proofs.LastShown.{last_number_found}
use Rattle.sql_query_laws.proofs.Texts.{last_number_is}
use Rattle.sql_queries.proofs.entries.last_number.Goals as goal

pub first_of-requires : goal.first_of-requires
first_of-requires g c = last_number_is.selects

pub returns : goal.returns
returns g c = record {
  answer = λ clean. IfOk-weaker c.first_of.result _ _ (λ x read. last_number_found read) (c.first_of.ensures.answer clean);
  stays = search rules;
  survives = search rules;
}

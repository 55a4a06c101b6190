use Rattle.std.proofs.Common.{rules}
use Rattle.std.proofs.lemmas.Result.{IfOk-weaker}
use Rattle.sql_queries.proofs.RegistryShown.{holidays_shown}
use Rattle.sql_query_laws.proofs.Found.{all_found}
use Rattle.sql_query_laws.proofs.Injective.{number_columns}
use Rattle.sql_query_laws.proofs.Texts.{holidays_is}
use Rattle.sql_queries.proofs.holidays.holidays.Goals as goal

pub column_of-requires : goal.column_of-requires
column_of-requires g c = holidays_is.selects

pub returns : goal.returns
returns g c = record {
  answer = λ clean. IfOk-weaker c.column_of.result _ _ (λ x read. all_found _ number_columns holidays_shown read) (c.column_of.ensures.answer clean);
  stays = search rules;
  survives = search rules;
}

use Rattle.std.proofs.Common.{rules}
use Rattle.std.proofs.lemmas.Result.{IfOk-weaker}
use Rattle.sql_queries.proofs.ItemsShown.{suspense_shown}
use Rattle.sql_query_laws.proofs.Found.{all_found}
use Rattle.sql_query_laws.proofs.Injective.{suspense_line_rows}
use Rattle.sql_query_laws.proofs.Texts.{suspense_is}
use Rattle.sql_queries.proofs.items.suspense.Goals as goal

pub all_of-requires : goal.all_of-requires
all_of-requires g c = suspense_is.selects

pub returns : goal.returns
returns g c = record {
  answer = λ clean. IfOk-weaker c.all_of.result _ _ (λ x read. all_found _ suspense_line_rows suspense_shown read) (c.all_of.ensures.answer clean);
  stays = search rules;
  survives = search rules;
}

use Rattle.std.proofs.Common.{rules}
use Rattle.std.proofs.lemmas.Result.{IfOk-weaker}
use Rattle.sql_queries.proofs.SubmissionsShown.{order_shown}
use Rattle.sql_query_laws.proofs.Found.{first_found}
use Rattle.sql_query_laws.proofs.Injective.{order_and_settlement_rows}
use Rattle.sql_query_laws.proofs.Texts.{order_is}
use Rattle.sql_queries.proofs.submissions.order_and_settlement.Goals as goal

pub first_of-requires : goal.first_of-requires
first_of-requires g c = order_is.selects

pub returns : goal.returns
returns g c = record {
  answer = λ clean. IfOk-weaker c.first_of.result _ _ (λ x read. first_found _ order_and_settlement_rows (order_shown c.args.company c.args.reference) (rw (c.characters.ensures, c.bytes.ensures.value, c.characters-2.ensures, c.bytes-2.ensures.value) at read)) (c.first_of.ensures.answer clean);
  stays = search rules;
  survives = search rules;
}

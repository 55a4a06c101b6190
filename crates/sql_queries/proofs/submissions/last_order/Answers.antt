use Rattle.std.proofs.Common.{rules, ap, unwrap_or}
use Rattle.sql_query_laws.proofs.LastShown.{last_order_found}
use Rattle.sql_query_laws.proofs.Texts.{last_order_is}
use Rattle.sql_queries.proofs.submissions.last_order.Goals as goal

pub cell_of-requires : goal.cell_of-requires
cell_of-requires g c = last_order_is.selects

pub returns-in-Some : goal.returns-in-Some
returns-in-Some g c = record {
  answer = λ clean. last_order_found (rw (c.characters.ensures, c.bytes.ensures.value) at (c.in_ok-order.ensures.asked.answer clean)) (ap (λ o. unwrap_or o 0) c.in-Some.is);
  stays = search rules;
  survives = search rules;
}

pub returns-in-None : goal.returns-in-None
returns-in-None g c = record {
  answer = λ clean. last_order_found (rw (c.characters.ensures, c.bytes.ensures.value) at (c.in_ok-order.ensures.asked.answer clean)) (ap (λ o. unwrap_or o 0) c.in-None.is);
  stays = search rules;
  survives = search rules;
}

use Rattle.std.proofs.Common.{rules, ap, unwrap_or}
use Rattle.sql_query_laws.proofs.LastShown.{last_suspense_found}
use Rattle.sql_query_laws.proofs.Texts.{last_suspense_is}
use Rattle.sql_queries.proofs.items.last_suspense_number.Goals as goal

pub cell_of-requires : goal.cell_of-requires
cell_of-requires g c = last_suspense_is.selects

pub returns-in-Some : goal.returns-in-Some
returns-in-Some g c = record {
  answer = λ clean. last_suspense_found (c.in_ok-number.ensures.asked.answer clean) (ap (λ o. unwrap_or o 0) c.in-Some.is);
  stays = search rules;
  survives = search rules;
}

pub returns-in-None : goal.returns-in-None
returns-in-None g c = record {
  answer = λ clean. last_suspense_found (c.in_ok-number.ensures.asked.answer clean) (ap (λ o. unwrap_or o 0) c.in-None.is);
  stays = search rules;
  survives = search rules;
}

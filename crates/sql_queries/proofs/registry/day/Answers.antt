use Rattle.std.proofs.Common.{rules}
use Rattle.sql_query_laws.proofs.Found.{one_found}
use Rattle.sql_query_laws.proofs.Injective.{number_if_any_columns}
use Rattle.sql_queries.proofs.RegistryShown.{day_shown}
use Rattle.sql_query_laws.proofs.Texts.{day_is}
use Rattle.sql_queries.proofs.registry.day.Goals as goal

pub cell_of-requires : goal.cell_of-requires
cell_of-requires g c = day_is.selects

pub returns-in-Some : goal.returns-in-Some
returns-in-Some g c = record {
  answer = λ clean. one_found _ number_if_any_columns day_shown (c.in_ok-found.ensures.asked.answer clean) c.in-Some.is;
  stays = search rules;
  survives = search rules;
}

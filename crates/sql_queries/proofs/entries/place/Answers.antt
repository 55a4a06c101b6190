use Rattle.std.proofs.Common.{rules}
use Rattle.std.proofs.lemmas.Result.{IfOk-weaker}
use Rattle.sql_queries.proofs.EntriesShown.{place_shown}
use Rattle.sql_query_laws.proofs.Found.{first_found}
use Rattle.sql_query_laws.proofs.Injective.{number_columns}
use Rattle.sql_query_laws.proofs.Texts.{places_is}
use Rattle.sql_queries.proofs.entries.place.Goals as goal

pub cell_of-requires : goal.cell_of-requires
cell_of-requires g c = places_is.selects

pub returns : goal.returns
returns g c = record {
  answer = λ clean. IfOk-weaker c.cell_of.result _ _ (λ x read. first_found _ number_columns (place_shown c.args.sequence) (rw (c.in_ok-natural.ensures, c.from.ensures, c.in_ok-natural-2.ensures, c.from-2.ensures) at read)) (c.cell_of.ensures.asked.answer clean);
  stays = search rules;
  survives = search rules;
}

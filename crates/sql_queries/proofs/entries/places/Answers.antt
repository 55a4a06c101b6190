use Rattle.std.proofs.Common.{rules}
use Rattle.std.proofs.lemmas.Result.{IfOk-weaker}
use Rattle.sql_queries.proofs.EntriesShown.{places_shown}
use Rattle.sql_query_laws.proofs.Found.{all_found}
use Rattle.sql_query_laws.proofs.Injective.{number_columns}
use Rattle.sql_query_laws.proofs.Texts.{places_is}
use Rattle.sql_queries.proofs.entries.places.Goals as goal

pub column_of-requires : goal.column_of-requires
column_of-requires g c = places_is.selects

pub returns : goal.returns
returns g c = record {
  answer = λ clean. IfOk-weaker c.column_of.result _ _ (λ x read. all_found _ number_columns (places_shown c.args.from c.args.to) (rw (c.in_ok-natural.ensures, c.from.ensures, c.in_ok-natural-2.ensures, c.from-2.ensures) at read)) (c.column_of.ensures.answer clean);
  stays = search rules;
  survives = search rules;
}

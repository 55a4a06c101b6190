use Rattle.std.proofs.Common.{rules}
use Rattle.std.proofs.lemmas.Result.{IfOk-weaker}
use Rattle.sql_queries.proofs.EntriesShown.{entry_places_shown}
use Rattle.sql_query_laws.proofs.Found.{all_found}
use Rattle.sql_query_laws.proofs.Injective.{entry_place_rows}
use Rattle.sql_query_laws.proofs.Texts.{entry_places_is}
use Rattle.sql_queries.proofs.entries.entry_places.Goals as goal

pub all_of-requires : goal.all_of-requires
all_of-requires g c = entry_places_is.selects

pub returns : goal.returns
returns g c = record {
  answer = λ clean. IfOk-weaker c.all_of.result _ _ (λ x read. all_found _ entry_place_rows (entry_places_shown c.args.from c.args.to) (rw (c.in_ok-natural.ensures, c.in_ok-natural-2.ensures) at read)) (c.all_of.ensures.answer clean);
  stays = search rules;
  survives = search rules;
}

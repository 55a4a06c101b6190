use Rattle.std.proofs.Common.{rules}
use Rattle.std.proofs.lemmas.Result.{IfOk-weaker}
use Rattle.sql_queries.proofs.ItemsShown.{return_shown}
use Rattle.sql_query_laws.proofs.Found.{first_found}
use Rattle.sql_query_laws.proofs.Injective.{entry_return_rows}
use Rattle.sql_query_laws.proofs.Texts.{return_is}
use Rattle.sql_queries.proofs.items.entry_return.Goals as goal

pub first_of-requires : goal.first_of-requires
first_of-requires g c = return_is.selects

pub returns : goal.returns
returns g c = record {
  answer = λ clean. IfOk-weaker c.first_of.result _ _ (λ x read. first_found _ entry_return_rows (return_shown c.args.company c.args.order c.args.index) (rw (c.characters.ensures, c.bytes.ensures.value, c.in_ok-natural.ensures, c.in_ok-natural-2.ensures) at read)) (c.first_of.ensures.answer clean);
  stays = search rules;
  survives = search rules;
}

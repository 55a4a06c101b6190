use Rattle.std.proofs.Common.{rules}
use Rattle.std.proofs.lemmas.Result.{IfOk-weaker}
use Rattle.sql_queries.proofs.ItemsShown.{returns_shown}
use Rattle.sql_query_laws.proofs.Found.{all_found}
use Rattle.sql_query_laws.proofs.Injective.{entry_return_rows}
use Rattle.sql_query_laws.proofs.Texts.{returns_is}
use Rattle.sql_queries.proofs.items.returns.Goals as goal

pub all_of-requires : goal.all_of-requires
all_of-requires g c = returns_is.selects

pub returns : goal.returns
returns g c = record {
  answer = λ clean. IfOk-weaker c.all_of.result _ _ (λ x read. all_found _ entry_return_rows (returns_shown c.args.company c.args.order) (rw (c.characters.ensures, c.bytes.ensures.value, c.in_ok-natural.ensures) at read)) (c.all_of.ensures.answer clean);
  stays = search rules;
  survives = search rules;
}

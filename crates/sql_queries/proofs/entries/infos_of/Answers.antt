use Rattle.std.proofs.Common.{rules}
use Rattle.std.proofs.lemmas.Result.{IfOk-weaker}
use Rattle.sql_queries.proofs.EntriesShown.{infos_shown}
use Rattle.sql_query_laws.proofs.Found.{all_found}
use Rattle.sql_query_laws.proofs.Injective.{text_if_any_columns}
use Rattle.sql_query_laws.proofs.Texts.{infos_is}
use Rattle.sql_queries.proofs.entries.infos_of.Goals as goal

pub column_of-requires : goal.column_of-requires
column_of-requires g c = infos_is.selects

pub returns : goal.returns
returns g c = record {
  answer = λ clean. IfOk-weaker c.column_of.result _ _ (λ x read. all_found _ text_if_any_columns (infos_shown c.args.company c.args.order) (rw (c.characters.ensures, c.bytes.ensures.value, c.in_ok-natural.ensures) at read)) (c.column_of.ensures.answer clean);
  stays = search rules;
  survives = search rules;
}

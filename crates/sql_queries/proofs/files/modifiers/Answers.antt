use Rattle.std.proofs.Common.{rules}
use Rattle.std.proofs.lemmas.Result.{IfOk-weaker}
use Rattle.sql_query_laws.proofs.LinesShown.{modifiers_shown}
use Rattle.sql_query_laws.proofs.Found.{all_found}
use Rattle.sql_query_laws.proofs.Injective.{letter_columns}
use Rattle.sql_query_laws.proofs.Texts.{modifiers_is}
use Rattle.sql_queries.proofs.files.modifiers.Goals as goal

pub column_of-requires : goal.column_of-requires
column_of-requires g c = modifiers_is.selects

pub returns : goal.returns
returns g c = record {
  answer = λ clean. IfOk-weaker c.column_of.result _ _ (λ x read. all_found _ letter_columns (modifiers_shown c.args.day) (rw c.date.ensures at read)) (c.column_of.ensures.answer clean);
  stays = search rules;
  survives = search rules;
}

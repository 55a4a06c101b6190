use Rattle.std.proofs.Common.{rules}
use Rattle.std.proofs.lemmas.Result.{IfOk-weaker}
use Rattle.sql_query_laws.proofs.Found.{first_found}
use Rattle.sql_query_laws.proofs.Injective.{blob_columns}
use Rattle.sql_query_laws.proofs.LinesShown.{file_shown}
use Rattle.sql_query_laws.proofs.Texts.{file_is}
use Rattle.sql_queries.proofs.files.file_text.Goals as goal

pub blob_of-requires : goal.blob_of-requires
blob_of-requires g c = file_is.selects

pub returns : goal.returns
returns g c = record {
  answer = λ clean. IfOk-weaker c.blob_of.result _ _ (λ x read. first_found _ blob_columns (file_shown c.args.day c.args.modifier) (rw (c.date.ensures, c.characters.ensures) at read)) (c.blob_of.ensures.answer clean);
  stays = search rules;
  survives = search rules;
}

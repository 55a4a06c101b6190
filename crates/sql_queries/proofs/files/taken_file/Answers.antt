use Rattle.std.proofs.Common.{rules}
use Rattle.std.proofs.lemmas.Result.{IfOk-weaker}
use Rattle.sql_query_laws.proofs.LinesShown.{taken_shown}
use Rattle.sql_query_laws.proofs.Found.{first_found}
use Rattle.sql_query_laws.proofs.Injective.{taken_rows}
use Rattle.sql_query_laws.proofs.Texts.{taken_is}
use Rattle.sql_queries.proofs.files.taken_file.Goals as goal

pub first_of-requires : goal.first_of-requires
first_of-requires g c = taken_is.selects

pub returns : goal.returns
returns g c = record {
  answer = λ clean. IfOk-weaker c.first_of.result _ _ (λ x read. first_found _ taken_rows (taken_shown c.args.key) (rw c.characters.ensures at read)) (c.first_of.ensures.answer clean);
  stays = search rules;
  survives = search rules;
}

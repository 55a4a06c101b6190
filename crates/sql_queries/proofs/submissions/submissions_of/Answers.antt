use Rattle.std.proofs.Common.{rules}
use Rattle.std.proofs.lemmas.Result.{IfOk-weaker}
use Rattle.sql_queries.proofs.SubmissionsShown.{submissions_of_shown}
use Rattle.sql_query_laws.proofs.Found.{all_found}
use Rattle.sql_query_laws.proofs.Injective.{submission_head_rows}
use Rattle.sql_query_laws.proofs.Texts.{submissions_of_is}
use Rattle.sql_queries.proofs.submissions.submissions_of.Goals as goal

pub all_of-requires : goal.all_of-requires
all_of-requires g c = submissions_of_is.selects

pub returns : goal.returns
returns g c = record {
  answer = λ clean. IfOk-weaker c.all_of.result _ _ (λ x read. all_found _ submission_head_rows (submissions_of_shown c.args.company) (rw (c.characters.ensures, c.bytes.ensures.value) at read)) (c.all_of.ensures.answer clean);
  stays = search rules;
  survives = search rules;
}

use Rattle.std.proofs.Common.{rules}
use Rattle.std.proofs.lemmas.Result.{IfOk-weaker}
use Rattle.sql_queries.proofs.SubmissionsShown.{submission_shown}
use Rattle.sql_query_laws.proofs.Found.{first_found}
use Rattle.sql_query_laws.proofs.Injective.{submission_head_rows}
use Rattle.sql_query_laws.proofs.Texts.{submission_is}
use Rattle.sql_queries.proofs.submissions.submission.Goals as goal

pub first_of-requires : goal.first_of-requires
first_of-requires g c = submission_is.selects

pub returns : goal.returns
returns g c = record {
  answer = λ clean. IfOk-weaker c.first_of.result _ _ (λ x read. first_found _ submission_head_rows (submission_shown c.args.company c.args.reference) (rw (c.characters.ensures, c.bytes.ensures.value, c.characters-2.ensures, c.bytes-2.ensures.value) at read)) (c.first_of.ensures.answer clean);
  stays = search rules;
  survives = search rules;
}

use Rattle.std.proofs.Common.{rules}
use Rattle.std.proofs.lemmas.Result.{IfOk-weaker}
use Rattle.sql_queries.proofs.SubmissionsShown.{retries_shown}
use Rattle.sql_query_laws.proofs.Found.{all_found}
use Rattle.sql_query_laws.proofs.Injective.{submission_head_rows}
use Rattle.sql_query_laws.proofs.Texts.{retries_is}
use Rattle.sql_queries.proofs.submissions.retries.Goals as goal

pub all_of-requires : goal.all_of-requires
all_of-requires g c = retries_is.selects

pub returns : goal.returns
returns g c = record {
  answer = λ clean. IfOk-weaker c.all_of.result _ _ (λ x read. all_found _ submission_head_rows (retries_shown c.args.company c.args.of c.args.index) (rw (c.characters.ensures, c.bytes.ensures.value, c.characters-2.ensures, c.bytes-2.ensures.value, c.in_ok-natural.ensures) at read)) (c.all_of.ensures.answer clean);
  stays = search rules;
  survives = search rules;
}

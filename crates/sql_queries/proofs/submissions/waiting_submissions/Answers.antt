use Rattle.std.proofs.Common.{rules}
use Rattle.std.proofs.lemmas.Result.{IfOk-weaker}
use Rattle.sql_query_laws.proofs.Texts.{waiting_submissions_is}
use Rattle.sql_queries.proofs.WaitingFirst.{waiting_found}
use Rattle.sql_queries.proofs.submissions.waiting_submissions.Goals as goal

pub read_while-requires : goal.read_while-requires
read_while-requires g c = waiting_submissions_is.selects

pub returns : goal.returns
returns g c = record {
  answer = λ clean. IfOk-weaker c.read_while.result _ _ (λ x read. waiting_found (rw (c.characters.ensures, c.bytes.ensures.value) at read)) (c.read_while.ensures.answer clean);
  stays = search rules;
  survives = search rules;
}

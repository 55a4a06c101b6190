use Rattle.std.proofs.Common.{rules}
use Rattle.std.proofs.lemmas.Result.{IfOk-weaker}
use Rattle.sql_queries.proofs.SubmissionsShown.{facts_shown}
use Rattle.sql_query_laws.proofs.Found.{first_found}
use Rattle.sql_query_laws.proofs.Injective.{submission_facts_rows}
use Rattle.sql_query_laws.proofs.Texts.{facts_is}
use Rattle.sql_queries.proofs.submissions.facts.Goals as goal

pub first_of-requires : goal.first_of-requires
first_of-requires g c = facts_is.selects

pub returns : goal.returns
returns g c = record {
  answer = λ clean. IfOk-weaker c.first_of.result _ _ (λ x read. first_found _ submission_facts_rows (facts_shown c.args.company c.args.order) (rw (c.characters.ensures, c.bytes.ensures.value, c.in_ok-natural.ensures) at read)) (c.first_of.ensures.answer clean);
  stays = search rules;
  survives = search rules;
}

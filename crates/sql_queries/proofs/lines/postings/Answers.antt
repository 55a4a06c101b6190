use Rattle.std.proofs.Common.{rules}
use Rattle.std.proofs.lemmas.Result.{IfOk-weaker}
use Rattle.sql_query_laws.proofs.Found.{all_found}
use Rattle.sql_query_laws.proofs.Injective.{posting_line_rows}
use Rattle.sql_query_laws.proofs.LinesShown.{postings_shown, postings_found}
use Rattle.sql_query_laws.proofs.Texts.{postings_is}
use Rattle.sql_queries.proofs.lines.postings.Goals as goal

pub all_of-requires : goal.all_of-requires
all_of-requires g c = postings_is.selects

pub returns : goal.returns
returns g c = record {
  answer = λ clean.
      let lines = all_found _ posting_line_rows (postings_shown c.args.account) (rw (c.characters.ensures, c.as_slice.ensures.value, c.account_text-text.ensures) at (c.in_ok-lines.ensures.answer clean)) in
      IfOk-weaker c.of_account.result _ _ (λ found are. postings_found lines are) c.of_account.ensures;
  stays = search rules;
  survives = search rules;
}

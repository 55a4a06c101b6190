use Rattle.std.proofs.Common.{rules}
use Rattle.sql_queries.proofs.ReturnsShown.{return_lines_found}
use Rattle.sql_query_laws.proofs.Texts.{return_lines_is}
use Rattle.sql_queries.proofs.items.return_lines.Goals as goal

pub all_of-requires : goal.all_of-requires
all_of-requires g c = return_lines_is.selects

pub returns : goal.returns
returns g c = record {
  answer = λ clean. return_lines_found (rw (c.characters.ensures, c.bytes.ensures.value) at (c.in_ok-lines.ensures.answer clean)) c.in_order.ensures.same c.in_order.ensures.sorted;
  stays = search rules;
  survives = search rules;
}

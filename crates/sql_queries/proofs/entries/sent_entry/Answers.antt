use Rattle.std.proofs.Common.{rules}
use Rattle.std.proofs.lemmas.Result.{IfOk-weaker}
use Rattle.sql_queries.proofs.EntriesShown.{sent_entry_shown}
use Rattle.sql_query_laws.proofs.Found.{first_found}
use Rattle.sql_query_laws.proofs.Injective.{placed_entry_rows}
use Rattle.sql_query_laws.proofs.Texts.{sent_entry_is}
use Rattle.sql_queries.proofs.entries.sent_entry.Goals as goal

pub first_of-requires : goal.first_of-requires
first_of-requires g c = sent_entry_is.selects

pub returns : goal.returns
returns g c = record {
  answer = λ clean. IfOk-weaker c.first_of.result _ _ (λ x read. first_found _ placed_entry_rows (sent_entry_shown c.args.place) (rw c.in_ok-natural.ensures at read)) (c.first_of.ensures.answer clean);
  stays = search rules;
  survives = search rules;
}

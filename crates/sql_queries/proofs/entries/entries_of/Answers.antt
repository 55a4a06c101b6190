use Rattle.std.proofs.Common.{rules}
use Rattle.std.proofs.lemmas.Result.{IfOk-weaker}
use Rattle.sql_queries.proofs.EntriesShown.{entries_shown}
use Rattle.sql_query_laws.proofs.Found.{all_found}
use Rattle.sql_query_laws.proofs.Injective.{numbered_entry_rows}
use Rattle.sql_query_laws.proofs.Texts.{entries_is}
use Rattle.sql_queries.proofs.entries.entries_of.Goals as goal

pub all_of-requires : goal.all_of-requires
all_of-requires g c = entries_is.selects

pub returns : goal.returns
returns g c = record {
  answer = λ clean. IfOk-weaker c.all_of.result _ _ (λ x read. all_found _ numbered_entry_rows (entries_shown c.args.company c.args.order) (rw (c.characters.ensures, c.bytes.ensures.value, c.in_ok-natural.ensures) at read)) (c.all_of.ensures.answer clean);
  stays = search rules;
  survives = search rules;
}

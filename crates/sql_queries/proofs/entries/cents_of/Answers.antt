use Rattle.std.proofs.Common.{rules, ◌∷◌, []}
use Rattle.sql_tables.specs.Columns.{number}
use Rattle.sql_queries.proofs.EntriesShown.{cents_shown}
use Rattle.sql_query_laws.proofs.Found.{one_found}
use Rattle.sql_query_laws.proofs.Injective.{number_columns}
use Rattle.sql_query_laws.proofs.Texts.{cents_is}
use Rattle.sql_queries.proofs.entries.cents_of.Goals as goal

pub cell_of-requires : goal.cell_of-requires
cell_of-requires g c = cents_is.selects

pub returns-in-Some : goal.returns-in-Some
returns-in-Some g c = record {
  answer = λ clean. one_found (λ n. number n ∷ []) number_columns (cents_shown c.args.company c.args.order) (rw (c.characters.ensures, c.bytes.ensures.value, c.in_ok-natural.ensures) at (c.in_ok-cents.ensures.asked.answer clean)) c.in-Some.is;
  stays = search rules;
  survives = search rules;
}

use Rattle.std.proofs.Common.{rules}
use Rattle.sql_query_laws.proofs.Found.{one_found}
use Rattle.sql_query_laws.proofs.Injective.{keyed_identity_rows}
use Rattle.sql_queries.proofs.RegistryShown.{keyed_identity_shown}
use Rattle.sql_query_laws.proofs.Texts.{keyed_identity_is}
use Rattle.sql_queries.proofs.registry.keyed_identity.Goals as goal

pub first_of-requires : goal.first_of-requires
first_of-requires g c = keyed_identity_is.selects

pub returns-in-Some : goal.returns-in-Some
returns-in-Some g c = record {
  answer = λ clean. one_found _ keyed_identity_rows keyed_identity_shown (c.in_ok-found.ensures.answer clean) c.in-Some.is;
  stays = search rules;
  survives = search rules;
}

use Rattle.desk_rules.proofs.RefusalLemmas.{accepted, accepts, refused, refuses}
use Rattle.desk_rules.proofs.laws.first_refusals.Goals as goal

pub returns : goal.returns
returns c = record { accepted = accepted; accepts = accepts; refused = refused; refuses = refuses }

use Rattle.desk_rules.proofs.RatedFacts.{rated_facts_suffice}
use Rattle.desk_rules.proofs.laws.rated_facts_suffice.Goals as goal

pub returns : goal.returns
returns c = rated_facts_suffice

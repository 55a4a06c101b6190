use Rattle.desk_rules.proofs.SameLemmas.{retries, submissions}
use Rattle.desk_rules.proofs.laws.same_contents.Goals as goal

pub returns : goal.returns
returns c = record { submissions = submissions; retries = retries }

use Rattle.ach_files.proofs.Says.{key_again, facts_again}
use Rattle.ach_files.proofs.laws.facts_are_read_again.Goals as goal

pub returns : goal.returns
returns c = record { key = λ o e. key_again o e; facts = λ o e a. facts_again o e a }

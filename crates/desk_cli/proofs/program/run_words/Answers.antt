use Rattle.std.proofs.Common.{arith}
use Rattle.desk_cli.proofs.StartedLemmas.{code_within}
use Rattle.desk_cli.proofs.program.run_words.Goals as goal

pub returns-in-Ok-clause-status : goal.returns-in-Ok-clause-status
returns-in-Ok-clause-status g c = let within = code_within c.run.result in omega (arith, c.code.ensures, within)

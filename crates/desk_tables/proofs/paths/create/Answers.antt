use Rattle.std.proofs.Common.{◌∙◌, ap, Err}
use Rattle.desk_tables.proofs.paths.create.Goals as goal

pub returns-in-Err-clause-memory : goal.returns-in-Err-clause-memory
returns-in-Err-clause-memory c = λ is. ap Err (c.fault.ensures ∙ c.in-Err.ensures.memory is)

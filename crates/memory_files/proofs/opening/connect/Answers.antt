use Rattle.memory_files.proofs.Taking.{finds_in, left_said}
use Rattle.memory_files.proofs.opening.connect.Goals as goal

pub returns-clause-found : goal.returns-clause-found
returns-clause-found c = finds_in _ c.args.files c.open_files_with.result c.open_files_with.ensures.found

pub returns-clause-unopened : goal.returns-clause-unopened
returns-clause-unopened c = left_said _ c.args.files c.open_files_with.result c.open_files_with.ensures.cause c.open_files_with.ensures.unharmed

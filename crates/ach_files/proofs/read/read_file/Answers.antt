use Rattle.ach_files.proofs.Outcome.{found_is, only_is, told_is}
use Rattle.ach_files.proofs.read.read_file.Goals as goal

pub returns-clause-found : goal.returns-clause-found
returns-clause-found c = found_is c.read.result c.args.bytes.now c.read.ensures.read

pub returns-clause-only : goal.returns-clause-only
returns-clause-only c = λ f is. only_is c.read.result c.args.bytes.now f is c.read.ensures.read

pub returns-clause-told : goal.returns-clause-told
returns-clause-told c = told_is c.read.result c.args.bytes.now c.read.ensures.read

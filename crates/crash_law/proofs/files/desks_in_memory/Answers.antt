use Rattle.crash_law.proofs.Openings.{in_memory}
use Rattle.crash_law.proofs.files.desks_in_memory.Goals as goal

pub returns : goal.returns
returns c = in_memory

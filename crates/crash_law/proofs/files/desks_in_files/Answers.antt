use Rattle.crash_law.proofs.Openings.{in_files}
use Rattle.crash_law.proofs.files.desks_in_files.Goals as goal

pub returns : goal.returns
returns g c = in_files g.D.Disk c.desks_in_tables.ensures

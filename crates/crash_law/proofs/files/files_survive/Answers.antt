use Rattle.crash_law.proofs.Openings.{files_survive}
use Rattle.crash_law.proofs.files.files_survive.Goals as goal

pub returns : goal.returns
returns g c = files_survive g.D.Disk c.desks_in_tables.ensures c.stands_after_crash.ensures

use Rattle.ach_files.proofs.Controls.{long_kept}
use Rattle.ach_files.proofs.print.measures.measures_of.Goals as goal

pub returns-clause-long : goal.returns-clause-long
returns-clause-long c = long_kept c.sums_of_entries-sums.result _ c.sums_of_entries-sums.ensures

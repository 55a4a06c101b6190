use Rattle.sql_setup.proofs.VersionShown.{row_selects}
use Rattle.sql_setup.proofs.version.is_empty.Goals as goal

pub returns-in_err-rows-clause-stays : goal.returns-in_err-rows-clause-stays
returns-in_err-rows-clause-stays g c = c.query.ensures.stays row_selects

pub returns-in_err-rows-clause-survives : goal.returns-in_err-rows-clause-survives
returns-in_err-rows-clause-survives g c = c.query.ensures.survives row_selects

pub returns-clause-stays : goal.returns-clause-stays
returns-clause-stays g c = c.query.ensures.stays row_selects

pub returns-clause-survives : goal.returns-clause-survives
returns-clause-survives g c = c.query.ensures.survives row_selects

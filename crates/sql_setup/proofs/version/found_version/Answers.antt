use Rattle.sql_setup.proofs.VersionShown.{version_selects}
use Rattle.sql_setup.proofs.version.found_version.Goals as goal

pub returns-in_err-rows-clause-stays : goal.returns-in_err-rows-clause-stays
returns-in_err-rows-clause-stays g c = c.query.ensures.stays version_selects

pub returns-in_err-rows-clause-survives : goal.returns-in_err-rows-clause-survives
returns-in_err-rows-clause-survives g c = c.query.ensures.survives version_selects

pub returns-clause-stays : goal.returns-clause-stays
returns-clause-stays g c = c.query.ensures.stays version_selects

pub returns-clause-survives : goal.returns-clause-survives
returns-clause-survives g c = c.query.ensures.survives version_selects

use Rattle.http_history.proofs.CompanyRows.{companies_rows}
use Rattle.http_history.proofs.laws.companies_rows.Goals as goal

pub returns : goal.returns
returns c = companies_rows c.digest_of_part.ensures c.companies_rows.ensures

use Rattle.desk_history.proofs.CompanyRows.{companies_rows}
use Rattle.desk_history.proofs.laws.companies_rows.Goals as goal

pub returns : goal.returns
returns c = companies_rows

use Rattle.desk_book.proofs.CompaniesAnswers.{tells_companies}
use Rattle.desk_book.proofs.companies_laws.tells_companies.Goals as goal

pub returns : goal.returns
returns c = tells_companies c.verdicts_on_rows.ensures

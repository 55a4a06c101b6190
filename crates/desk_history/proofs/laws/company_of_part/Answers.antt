use Rattle.desk_history.proofs.laws.company_of_part.Goals as goal
use Rattle.desk_history.proofs.Lines.PartCompany.{company_of_part}

pub returns : goal.returns
returns c = company_of_part

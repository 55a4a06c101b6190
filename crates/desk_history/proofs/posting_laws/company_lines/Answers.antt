use Rattle.desk_history.proofs.posting_laws.company_lines.Goals as goal
use Rattle.desk_history.proofs.Lines.CompanyLines.{company_lines}

pub returns : goal.returns
returns c = company_lines

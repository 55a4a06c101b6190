use Rattle.desk_history.proofs.laws.digest_of_part.Goals as goal
use Rattle.desk_history.proofs.Lines.PartCompany.{digest_of_part}

pub returns : goal.returns
returns c = digest_of_part

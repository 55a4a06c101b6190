use Rattle.desk_history.proofs.sent_laws.possible_parts.Goals as goal
use Rattle.desk_history.proofs.Sent.PartsPossible.{possible_parts}

pub returns : goal.returns
returns c = possible_parts

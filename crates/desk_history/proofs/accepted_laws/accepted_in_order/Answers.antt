use Rattle.desk_history.proofs.accepted_laws.accepted_in_order.Goals as goal
use Rattle.desk_history.proofs.Acceptance.Linked.{accepted_in_order}

pub returns : goal.returns
returns c = accepted_in_order

use Rattle.desk_book.proofs.cut_laws.tells_cut.Goals as goal
use Rattle.desk_book.proofs.CutSteps.{tells_cut}

pub returns : goal.returns
returns c = tells_cut c.row_steps.ensures c.possible_parts.ensures c.accepted_in_order.ensures c.one_division.ensures c.steps_of_messages.ensures

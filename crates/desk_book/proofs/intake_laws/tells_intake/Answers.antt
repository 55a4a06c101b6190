use Rattle.desk_book.proofs.intake_laws.tells_intake.Goals as goal
use Rattle.desk_book.proofs.IntakeSteps.{tells_intake}

pub returns : goal.returns
returns c = tells_intake c.verdicts_on_rows.ensures c.row_steps.ensures c.sent_are_accepted.ensures c.possible_parts.ensures c.steps_of_messages.ensures

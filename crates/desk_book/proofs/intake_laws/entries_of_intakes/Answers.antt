use Rattle.desk_book.proofs.intake_laws.entries_of_intakes.Goals as goal
use Rattle.desk_book.proofs.IntakeEntries.{intake_admits}

pub returns : goal.returns
returns c = intake_admits

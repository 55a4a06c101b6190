use Rattle.ach_records.proofs.Said.{viewed_is_printed}
use Rattle.ach_records.proofs.laws.viewed_is_printed.Goals as goal

pub returns : goal.returns
returns c = viewed_is_printed

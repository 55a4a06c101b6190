use Rattle.desk_book.proofs.cut_laws.entries_of_cuts.Goals as goal
use Rattle.desk_book.proofs.CutEntries.{cut_admits}

pub returns : goal.returns
returns c = cut_admits c.one_division.ensures

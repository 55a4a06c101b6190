use Rattle.desk_book.proofs.Growing.{exposures_grow}
use Rattle.desk_book.proofs.sum_laws.exposures_grow.Goals as goal

pub returns : goal.returns
returns c = exposures_grow

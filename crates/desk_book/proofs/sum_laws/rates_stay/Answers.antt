use Rattle.desk_book.proofs.Growing.{rates_stay}
use Rattle.desk_book.proofs.sum_laws.rates_stay.Goals as goal

pub returns : goal.returns
returns c = rates_stay

use Rattle.std.proofs.Common.{rules}
use Rattle.remembering_store.proofs.FirstRead.{open_fits}
use Rattle.remembering_store.proofs.sums.first_read.keep_open.Goals as goal

pub returns : goal.returns
returns c = λ row is. open_fits c.args.submission row _ _ (search rules) c.is_debit.ensures c.into_vec.ensures is

use Rattle.desk_history.proofs.Alone.ServedAlone.{served_alone}
use Rattle.desk_history.proofs.alone_laws.served_alone.Goals as goal

pub returns : goal.returns
returns c = served_alone c.numbers_and_digits.ensures c.sent_by_cut.ensures c.never_twice.ensures c.accepted_alone.ensures

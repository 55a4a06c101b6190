use Rattle.desk_plan.proofs.NewSequences.{may_send-new, IsNumbered-after_cut, all_named}
use Rattle.desk_plan.proofs.laws.never_twice.Goals as goal

pub returns : goal.returns
returns c = record { may = may_send-new; numbered = IsNumbered-after_cut; named = all_named }

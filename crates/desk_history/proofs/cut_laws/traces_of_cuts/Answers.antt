use Rattle.desk_history.proofs.Traces.TracesOfCuts.{traces_of_cuts}
use Rattle.desk_history.proofs.cut_laws.traces_of_cuts.Goals as goal

pub returns : goal.returns
returns c = traces_of_cuts c.numbers_and_digits.ensures c.sent_by_cut.ensures c.by_ranges.ensures

use Rattle.desk_plan.proofs.Cuts.{after_cut-entries, length-after_cut, ranges_within}
use Rattle.desk_plan.proofs.Sending.{last_after}
use Rattle.desk_plan.proofs.laws.sent_by_cut.Goals as goal

pub returns : goal.returns
returns c = record {
  entries = after_cut-entries;
  count = length-after_cut;
  last = λ sent b h. last_after sent b h.entries.0;
  within = ranges_within;
}

use Rattle.std.proofs.Common.{refl}
use Rattle.desk_plan.proofs.Divisions.{division-divides, division-whole, only_division}
use Rattle.desk_plan.proofs.Sizes.{in_runs-division, sizes_whole}
use Rattle.desk_plan.proofs.Submissions.{submissions_fit}
use Rattle.desk_plan.proofs.laws.one_division.Goals as goal

pub returns : goal.returns
returns c = record {
  found = λ batches h. division-divides batches (submissions_fit batches h);
  only = only_division;
  whole = division-whole;
  count = λ batches. sizes_whole batches _ refl;
  by_sizes = in_runs-division;
}

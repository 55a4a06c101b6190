-- If a cut of all batches is not refused, a cut of some is not refused either.
use Rattle.std.proofs.Common.{◌+◌, ◌≤◌, length, map, arith, nat_le, filter}
use Rattle.std.proofs.lemmas.Bool.{leb-true, le-leb, and_parts, and_from}
use Rattle.desk_plan.specs.Cut.{files_of}
use Rattle.desk_plan.specs.Files.{division}
use Rattle.desk_plan.specs.Laws.{AcceptedAlone}
use Rattle.desk_plan.specs.Modifiers.{most_files}
use Rattle.desk_plan.specs.Reuse.{may_send}
use Rattle.desk_plan.proofs.FewerFiles.{fewer_files, fewer_in_day}
use Rattle.desk_plan.proofs.NewSequences.{may_send-new}
use Rattle.desk_plan.proofs.Submissions.{submissions_fit}

pub accepted_alone : AcceptedAlone
accepted_alone test day cuts batches sent alone in_cuts each numbered few accepted =
    let room : files_of cuts + length (division batches) ≤ most_files = leb-true (files_of cuts + length (division batches)) most_files (and_parts (may_send day sent batches) (nat_le (files_of cuts + length (division batches)) most_files) accepted).1 in
    let before = fewer_in_day test cuts in_cuts in
    let here = fewer_files test batches (submissions_fit batches each) in
    and_from _ _ (may_send-new day alone (filter test batches) numbered few)
    (le-leb (files_of (map (filter test) cuts) + length (division (filter test batches))) most_files (omega arith))

use Rattle.std.proofs.Common.{◌≡◌, take}
use Rattle.desk_cut.specs.Sizes.{sums_on}
use Rattle.desk_cut.specs.Sums.{AreWithin}
use Rattle.desk_cut.proofs.status.sums_on.Given as goal

abbrev pub invariant-loop-one : goal.invariant-loop-one
invariant-loop-one l = record {
  is : l.sums ≡ sums_on l.day (take l.one-index l.sent);
  within : AreWithin l.one-index l.sums;
}

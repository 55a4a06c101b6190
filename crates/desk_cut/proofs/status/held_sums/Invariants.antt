use Rattle.std.proofs.Common.{◌≡◌, take}
use Rattle.desk_cut.specs.Sizes.{tallies_of}
use Rattle.desk_cut.specs.Sums.{AreWithin}
use Rattle.desk_cut.proofs.status.held_sums.Given as goal

abbrev pub invariant-loop-one : goal.invariant-loop-one
invariant-loop-one l = record {
  is : l.sums ≡ tallies_of (take l.one-index l.sizes);
  within : AreWithin l.one-index l.sums;
}

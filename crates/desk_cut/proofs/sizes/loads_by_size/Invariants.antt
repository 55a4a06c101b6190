use Rattle.std.proofs.Common.{◌≡◌, take, map}
use Rattle.desk_cut.specs.Sizes.{load_of}
use Rattle.desk_cut.proofs.sizes.loads_by_size.Given as goal

abbrev pub invariant-loop-one : goal.invariant-loop-one
invariant-loop-one l = l.loads.items ≡ map (load_of l.company) (take l.one-index l.sent)

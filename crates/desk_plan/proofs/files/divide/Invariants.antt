use Rattle.std.proofs.Common.{◌≡◌, ◌++◌, drop}
use Rattle.desk_plan.proofs.Loads.{sizes_from}
use Rattle.desk_plan.proofs.files.divide.Given as goal

-- the sizes so far and those of the rest are all sizes
abbrev pub invariant-loop-batch : goal.invariant-loop-batch
invariant-loop-batch l = l.sizes.items ++ sizes_from l.load (drop l.batch-index l.rest) ≡ sizes_from l.initial.load l.rest

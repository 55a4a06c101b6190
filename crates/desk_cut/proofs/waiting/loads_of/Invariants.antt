use Rattle.std.proofs.Common.{◌≡◌, ◌++◌, drop}
use Rattle.desk_cut.specs.Waiting.{loads_of}
use Rattle.desk_cut.proofs.waiting.loads_of.Given as goal

-- the loads so far, and those of the companies that are left
abbrev pub invariant-loop-one : goal.invariant-loop-one
invariant-loop-one l = l.loads.items ++ loads_of (drop l.one-index l.all) ≡ loads_of l.all

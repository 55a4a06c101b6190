use Rattle.std.proofs.Common.{◌≡◌, ◌++◌, map, drop}
use Rattle.desk_cut.specs.Sent.{due_in, sending_in}
use Rattle.desk_cut.proofs.due.settle.Given as goal

-- those so far, and those that are left
abbrev pub invariant-loop-one : goal.invariant-loop-one
invariant-loop-one l = map sending_in l.sent.items ++ map due_in (drop l.one-index l.due) ≡ map due_in l.due

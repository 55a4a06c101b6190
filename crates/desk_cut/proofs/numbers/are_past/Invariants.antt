use Rattle.std.proofs.Common.{◌≡◌, drop}
use Rattle.std.specs.List.{list_all}
use Rattle.desk_plan.specs.Reuse.{is_past}
use Rattle.desk_cut.proofs.numbers.are_past.Given as goal

abbrev pub invariant-loop-settled : goal.invariant-loop-settled
invariant-loop-settled l = list_all (is_past l.day) (drop l.settled-index l.latest) ≡ list_all (is_past l.day) l.latest

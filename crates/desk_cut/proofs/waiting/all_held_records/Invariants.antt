use Rattle.std.proofs.Common.{◌≡◌, ◌+◌, drop}
use Rattle.std.specs.Prelude.{sum_by}
use Rattle.desk_cut.proofs.waiting.all_held_records.Given as goal

-- the records so far, and those of the companies that are left
abbrev pub invariant-loop-one : goal.invariant-loop-one
invariant-loop-one l = l.records + sum_by (λ w. w.held_records) (drop l.one-index l.all) ≡ sum_by (λ w. w.held_records) l.all

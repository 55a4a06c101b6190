use Rattle.std.proofs.Common.{◌≡◌, ◌++◌, drop, map}
use Rattle.std.specs.List.{flat_map}
use Rattle.desk_accounts.specs.Laws.{pairs}
use Rattle.desk_history.specs.Postings.{item_line}
use Rattle.desk_intake.specs.Resolutions.{judged_as}
use Rattle.desk_intake.proofs.postings.postings_of.Given as goal

-- the lines so far and those of the rest
abbrev pub invariant-loop-one : goal.invariant-loop-one
invariant-loop-one l =
    l.postings.items ++ pairs (flat_map (λ y. item_line l.day y.0 y.1) (map judged_as (drop l.one-index l.judged)))
    ≡ pairs (flat_map (λ y. item_line l.day y.0 y.1) (map judged_as l.judged))

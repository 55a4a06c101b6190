use Rattle.std.proofs.Common.{◌≡◌, ◌+◌, ◌++◌, drop, map}
use Rattle.std.specs.Prelude.{filter_map}
use Rattle.std.specs.List.{enumerate_from}
use Rattle.desk_history.specs.Intake.{suspense_row}
use Rattle.desk_intake.specs.Resolutions.{judged_as}
use Rattle.desk_intake.proofs.rows.suspense_rows.Given as goal

-- the rows so far and those of the rest
abbrev pub invariant-loop-index : goal.invariant-loop-index
invariant-loop-index l =
    l.rows.items ++ filter_map (λ y. suspense_row l.key l.day y.0 y.1.0 y.1.1) (enumerate_from (l.index + 1) (map judged_as (drop l.index l.judged)))
    ≡ filter_map (λ y. suspense_row l.key l.day y.0 y.1.0 y.1.1) (enumerate_from 1 (map judged_as l.judged))

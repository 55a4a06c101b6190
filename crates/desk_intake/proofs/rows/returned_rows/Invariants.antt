use Rattle.std.proofs.Common.{◌≡◌, ◌++◌, drop, map}
use Rattle.std.specs.Prelude.{filter_map}
use Rattle.desk_book.specs.OnIntake.{returned_row}
use Rattle.desk_intake.specs.Resolutions.{resolution_of}
use Rattle.desk_intake.proofs.rows.returned_rows.Given as goal

-- the rows so far and those of the rest
abbrev pub invariant-loop-one : goal.invariant-loop-one
invariant-loop-one l =
    l.rows.items ++ filter_map (returned_row l.holidays l.day) (map resolution_of (drop l.one-index l.judged))
    ≡ filter_map (returned_row l.holidays l.day) (map resolution_of l.judged)

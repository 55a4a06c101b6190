use Rattle.std.proofs.Common.{◌≡◌, ◌+◌, ◌-◌, drop, length}
use Rattle.std.specs.List.{range_with_len}
use Rattle.sql_reads.proofs.latest.place_behind.Given as goal

-- so many places were gone over, and all follow one another where the rest do
abbrev pub invariant-loop-place : goal.invariant-loop-place
invariant-loop-place l =
    (l.next ≡ l.first + l.place-index)
    × (drop l.place-index l.places ≡ range_with_len l.next (length l.places - l.place-index) → l.places ≡ range_with_len l.first (length l.places))

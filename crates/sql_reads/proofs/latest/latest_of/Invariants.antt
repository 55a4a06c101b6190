use Rattle.std.proofs.Common.{◌≡◌, drop, max}
use Rattle.std.specs.Prelude.{filter_map}
use Rattle.std.specs.List.{reduce, cons_option}
use Rattle.sql_reads.proofs.latest.latest_of.Given as goal

-- the latest so far beside the days that are left
abbrev pub invariant-loop-day : goal.invariant-loop-day
invariant-loop-day l = reduce max (cons_option l.latest (filter_map (λ day. day) (drop l.day-index l.days))) ≡ reduce max (filter_map (λ day. day) l.days)

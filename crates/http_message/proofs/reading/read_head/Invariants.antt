use Rattle.std.proofs.Common.{◌≡◌, ℕ, ◌-◌, List, ◌++◌, length}
use Rattle.std.specs.Io.KnownBytes.{Consumes}
use Rattle.http_message.proofs.reading.read_head.Given as goal

abbrev pub invariant-loop-start : goal.invariant-loop-start
invariant-loop-start g l =
    (taken : List ℕ) × Consumes (g.R.Source.remaining l.initial.reader) (g.R.Source.remaining l.reader) taken
    × (l.unread ≡ l.initial.unread ++ taken) × (length l.fields ≡ length l.initial.fields)

abbrev pub decreases-loop-start : goal.decreases-loop-start
decreases-loop-start g l = 16384 - length l.unread

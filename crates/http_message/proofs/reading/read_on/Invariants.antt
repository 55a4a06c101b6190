use Rattle.std.proofs.Common.{◌≡◌, ℕ, ◌-◌, List, ◌++◌, length}
use Rattle.std.specs.List.{list_all}
use Rattle.std.specs.Io.KnownBytes.{Consumes}
use Rattle.http_message.specs.Input.{IsOpen, is_line_end_byte}
use Rattle.http_message.proofs.reading.read_on.Given as goal

abbrev pub invariant-loop-unread : goal.invariant-loop-unread
invariant-loop-unread g l =
    (taken : List ℕ) × Consumes (g.R.Source.remaining l.initial.reader) (g.R.Source.remaining l.reader) taken
    × (l.unread ≡ l.initial.unread ++ taken) × IsOpen l.unread × (l.blank ≡ list_all is_line_end_byte l.unread)

abbrev pub decreases-loop-unread : goal.decreases-loop-unread
decreases-loop-unread g l = 16384 - length l.unread

use Rattle.std.proofs.Common.{◌≤◌}
use Rattle.std.specs.Io.KnownBytes.{Keeps}
use Rattle.io_retries.proofs.writing.flush_with_retries.Given as goal

abbrev pub invariant-loop-error : goal.invariant-loop-error
invariant-loop-error g l =
    Keeps (g.W.Sink.contents l.initial.writer) (g.W.Sink.contents l.writer)
    × (l.tries.left ≤ l.initial.tries.left)

abbrev pub decreases-loop-error : goal.decreases-loop-error
decreases-loop-error g l = l.tries.left

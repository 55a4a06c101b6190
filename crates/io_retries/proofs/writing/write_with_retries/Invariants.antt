use Rattle.std.proofs.Common.{◌≤◌}
use Rattle.std.specs.Io.KnownBytes.{Keeps}
use Rattle.io_retries.proofs.writing.write_with_retries.Given as goal

abbrev pub invariant-loop-count : goal.invariant-loop-count
invariant-loop-count g l =
    Keeps (g.W.Sink.contents l.initial.writer) (g.W.Sink.contents l.writer)
    × (l.tries.left ≤ l.initial.tries.left)

abbrev pub decreases-loop-count : goal.decreases-loop-count
decreases-loop-count g l = l.tries.left

use Rattle.std.proofs.Common.{◌≡◌, ◌≤◌, length}
use Rattle.std.specs.Io.KnownBytes.{Keeps}
use Rattle.io_retries.proofs.reading.read_with_retries.Given as goal

abbrev pub invariant-loop-count : goal.invariant-loop-count
invariant-loop-count g l =
    (length l.buf ≡ length l.initial.buf) × Keeps (g.R.Source.remaining l.initial.reader) (g.R.Source.remaining l.reader) × (l.tries.left ≤ l.initial.tries.left)

abbrev pub decreases-loop-count : goal.decreases-loop-count
decreases-loop-count g l = l.tries.left

use Rattle.std.proofs.Common.{◌≡◌, ◌≤◌, ℕ, List, ◌++◌, length}
use Rattle.std.specs.Io.KnownBytes.{Appends}
use Rattle.io_retries.proofs.writing.write_all_with_retries.Given as goal

abbrev pub invariant-loop-rest : goal.invariant-loop-rest
invariant-loop-rest g l =
    (sent : List ℕ) × (l.initial.rest ≡ sent ++ l.rest)
    × Appends (g.W.Sink.contents l.initial.writer) (g.W.Sink.contents l.writer) sent
    × (l.tries.left ≤ l.initial.tries.left)

abbrev pub decreases-loop-rest : goal.decreases-loop-rest
decreases-loop-rest g l = length l.rest

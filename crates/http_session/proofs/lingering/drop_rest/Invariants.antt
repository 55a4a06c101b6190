use Rattle.std.proofs.Common.{◌≡◌, ℕ, ◌+◌, List, length}
use Rattle.std.specs.Io.KnownBytes.{Consumes}
use Rattle.http_session.proofs.lingering.drop_rest.Given as goal

abbrev pub invariant-loop-left : goal.invariant-loop-left
invariant-loop-left g l =
    (taken : List ℕ) × Consumes (g.R.Source.remaining l.initial.reader) (g.R.Source.remaining l.reader) taken
    × (length taken + l.left ≡ 16777216)

abbrev pub decreases-loop-left : goal.decreases-loop-left
decreases-loop-left g l = l.left

use Rattle.std.proofs.Common.{◌≡◌}
use Rattle.http_routes.specs.Finding.{piece_of}
use Rattle.http_routes.proofs.pieces.piece_of.Given as goal

abbrev pub invariant-loop-left : goal.invariant-loop-left
invariant-loop-left l = piece_of l.left l.rest ≡ piece_of l.slashes l.fn.path

abbrev pub decreases-loop-left : goal.decreases-loop-left
decreases-loop-left l = l.left

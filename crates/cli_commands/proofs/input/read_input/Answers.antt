use Rattle.std.proofs.Common.{rules, ◌++◌, take, arith}
use Rattle.std.proofs.KnownBytes.{Consumes-kept, Consumes-trans}
use Rattle.cli_commands.proofs.TakingLemmas.{at_bound, at_end, Consumes-all, Consumes-bounded, few_more, none_lost}
use Rattle.cli_commands.proofs.input.read_input.Goals as goal

pub returns-then-count-eq0-clause-bytes : goal.returns-then-count-eq0-clause-bytes
returns-then-count-eq0-clause-bytes g c =
    let kept = none_lost _ _ _ _ c.in-Ok.ensures.bytes.0 c.if-count-eq0.true in
    Consumes-all _ _ _ (Consumes-bounded _ _ _ c.loop-left.left (Consumes-kept _ _ _ _ c.loop-left.invariant.takes kept) c.loop-left.invariant.size)
    (at_end _ _ (c.in-Ok.ensures.bytes.1 c.if-count-eq0.true (search rules)))

pub returns-in_default-extend_from_slice-clause-taken : goal.returns-in_default-extend_from_slice-clause-taken
returns-in_default-extend_from_slice-clause-taken g c = (
  c.loop-left.bytes.items ++ take c.in-Ok.count c.read_piece.new.piece,
  Consumes-trans _ _ _ _ _ c.loop-left.invariant.takes c.in-Ok.ensures.bytes.0,
  few_more _ _ _ _ c.loop-left.invariant.size c.in-Ok.ensures.few c.in-Ok.ensures.bound.0,
)

pub returns-clause-bytes : goal.returns-clause-bytes
returns-clause-bytes g c =
    Consumes-all _ _ _ (Consumes-bounded _ _ _ c.loop-left.left c.loop-left.invariant.takes c.loop-left.invariant.size)
    (at_bound _ _ (omega (arith, c.loop-left-test.false)))

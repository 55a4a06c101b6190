use Rattle.std.proofs.Common.{◌++◌, ◌≤◌, ℕ, List, take, length, arith, length-append}
use Rattle.std.proofs.lemmas.List.{length-take}
use Rattle.std.proofs.KnownBytes.{Consumes-trans}
use Rattle.http_session.proofs.lingering.drop_rest.Goals as goal

at_most : (n : ℕ) (xs : List ℕ) → length (take n xs) ≤ n
at_most n xs = simp length-take (omega arith)

pub loop-left-preserved : goal.loop-left-preserved
loop-left-preserved g c =
    let (taken, takes, size) = c.loop-left.invariant in
    let few = c.in_ok-count.ensures.bound.0 in
    let wanted = at_most c.min-wanted.result c.loop-left.piece in
    let piece = take c.in_ok-count.count c.read_with_retries.new.buf in (
      taken ++ piece,
      Consumes-trans _ _ _ _ _ takes c.in_ok-count.ensures.bytes.0,
      simp (length-append, length-take) (omega (arith, size, few, wanted)),
    )

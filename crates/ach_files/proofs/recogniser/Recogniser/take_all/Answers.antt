use Rattle.std.proofs.Common.{◌++◌, List, ℕ, take, drop, length, arith, subst, length-drop, length-take, ◌-◌}
use Rattle.ach_files.specs.Has.{HasBytes}
use Rattle.std.proofs.lemmas.Result.{err_from_is_err_and}
use Rattle.ach_files.proofs.OutOfMemory.{runs_out_on}
use Rattle.ach_files.proofs.Firsts.{more_taken}
use Rattle.ach_files.proofs.recogniser.Recogniser.take_all.Goals as goal

pub loop-next-preserved : goal.loop-next-preserved
loop-next-preserved c = record {
  within = omega (arith, c.in_ok-next.ensures.within, c.loop-next.invariant.within, length-drop c.loop-next.next c.args.piece.now, length-take (length c.args.piece.now - c.loop-next.next) (drop c.loop-next.next c.args.piece.now));
  room = omega (arith, c.loop-next.invariant.room, c.in_ok-next.ensures.room);
  read = λ bytes has.
      subst (λ (seen : List ℕ). HasBytes c.take_some.new.self seen) (more_taken bytes c.args.piece.now c.loop-next.next c.in_ok-next.field-0)
      (c.in_ok-next.ensures.read (bytes ++ take c.loop-next.next c.args.piece.now) (c.loop-next.invariant.read bytes has));
}

pub returns-in_err-next-clause-memory : goal.returns-in_err-next-clause-memory
returns-in_err-next-clause-memory c = λ bytes has.
    let p = err_from_is_err_and c.from_residual.result c.from_residual.ensures.1 in
    let n = c.loop-next.next in
    rw (p.1, p.2) (λ e.
    runs_out_on _ _ bytes c.args.piece.now n c.loop-next.invariant.within c.loop-next.invariant.room
    (c.in_err-next.ensures.memory (bytes ++ take n c.args.piece.now) (c.loop-next.invariant.read bytes has) e))

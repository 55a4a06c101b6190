use Rattle.std.proofs.Common.{refl}
use Rattle.http_session.proofs.sessions.session_with_tries.Goals as goal

pub returns-in-Ok-Some-clause-ran : goal.returns-in-Ok-Some-clause-ran
returns-in-Ok-Some-clause-ran g c =
    let turned = rw c.in-Ok-Some.field-0-is at c.in-Ok-Some.ensures.turned in
    turned c.args.desk.now _ _ c.loop-count.count refl c.loop-count.invariant.so_far

pub returns-in-Err-clause-ran : goal.returns-in-Err-clause-ran
returns-in-Err-clause-ran g c = c.in-Err.ensures.turned c.args.desk.now _ _ c.loop-count.count refl c.loop-count.invariant.so_far

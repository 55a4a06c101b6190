use Rattle.std.proofs.lemmas.Result.{err_from_is_err_and}
use Rattle.desk_calls.proofs.operator.cut.latest_of.Goals as goal

pub returns-in_err-settled : goal.returns-in_err-settled
returns-in_err-settled g c =
    record {
      before = λ clean. c.loop-range.invariant.before (c.latest_settled.ensures.before clean);
      read = λ clean.
          let p = err_from_is_err_and c.from_residual.result c.from_residual.ensures.1 in
          rw p.1 (λ b held. c.in_err-settled.ensures.read clean b (c.loop-range.invariant.read (c.latest_settled.ensures.before clean) b held).1);
      left = λ clean kept may. c.loop-range.invariant.left (c.latest_settled.ensures.before clean) kept (c.latest_settled.ensures.left clean kept may);
    }

pub returns-in_err-push : goal.returns-in_err-push
returns-in_err-push g c =
    record {
      before = λ clean. c.loop-range.invariant.before (c.latest_settled.ensures.before clean);
      read = λ clean.
          let p = err_from_is_err_and c.from_residual-in_err-push.result c.from_residual-in_err-push.ensures.1 in
          rw p.1 (λ b held. (c.in_ok-settled.ensures.read clean b (c.loop-range.invariant.read (c.latest_settled.ensures.before clean) b held).1).1);
      left = λ clean kept may. c.loop-range.invariant.left (c.latest_settled.ensures.before clean) kept (c.latest_settled.ensures.left clean kept may);
    }

use Rattle.std.proofs.Common.{arith}
use Rattle.std.proofs.lemmas.Grind.{common_steps}
use Rattle.desk_calls.proofs.retry.content.retry_content.Goals as goal

pub returns : goal.returns
returns g c =
    record {
      before = λ clean. c.submission.ensures.before (c.retry_content_of.ensures.before clean);
      read = grind (arith, common_steps);
      left = λ clean kept may. c.submission.ensures.left (c.retry_content_of.ensures.before clean) kept (c.retry_content_of.ensures.left clean kept may);
    }

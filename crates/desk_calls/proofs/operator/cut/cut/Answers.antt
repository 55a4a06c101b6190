use Rattle.std.proofs.Common.{rules}
use Rattle.desk_calls.proofs.operator.cut.cut.Goals as goal

pub returns-in-Ok-2 : goal.returns-in-Ok-2
returns-in-Ok-2 g c =
    record {
      before = λ clean. c.rule_day.ensures.before (c.reads_of.ensures.before (c.plan.ensures.before (c.write.ensures.before clean)));
      answers = search rules;
      left = search rules;
    }

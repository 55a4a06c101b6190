use Rattle.desk_intake.proofs.Taken.{taken_answers, taken_leaves}
use Rattle.desk_intake.proofs.intake.take_new.Goals as goal

pub returns : goal.returns
returns g c =
    record {
      before = λ clean. c.plan.ensures.before (c.write.ensures.before clean);
      answers = λ clean.
          taken_answers c.entries_of_intakes.ensures c.args.day c.args.file.now (g.S.Store.holds c.args.store.now) (g.S.Store.holds c.plan.new.store) c.in_ok-plan.plan
          (c.in_ok-plan.ensures.read (c.write.ensures.before clean)) (g.S.Store.holds c.write.new.store) c.write.result (c.write.ensures.answers clean);
      left = λ clean.
          taken_leaves c.entries_of_intakes.ensures c.args.day c.args.file.now (g.S.Store.holds c.args.store.now) (g.S.Store.holds c.plan.new.store) c.in_ok-plan.plan
          (c.in_ok-plan.ensures.read (c.write.ensures.before clean)) g.S.Store.keeps (g.S.Store.may_leave c.args.store.now) (g.S.Store.may_leave c.plan.new.store) (g.S.Store.may_leave c.write.new.store) c.write.result
          (c.in_ok-plan.ensures.left (c.write.ensures.before clean)) (c.write.ensures.left clean);
    }

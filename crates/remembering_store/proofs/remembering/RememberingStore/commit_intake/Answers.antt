use Rattle.std.specs.Prelude.{Err}
use Rattle.desk_store.specs.Written.{intake_rows, intake_step}
use Rattle.remembering_store.proofs.Deciding.{made, not_made, left_numbered}
use Rattle.remembering_store.proofs.Numbered.{intake_numbered}
use Rattle.remembering_store.proofs.remembering.RememberingStore.commit_intake.Goals as goal

pub returns-in-Ok : goal.returns-in-Ok
returns-in-Ok g c =
    let step = intake_step c.args.intake.now in
    let numbered = intake_numbered (intake_rows c.args.intake.now) in
    record {
      before = λ clean. c.in-Ok.ensures.before (c.learn_lost.ensures.before clean);
      write = λ clean b held admits. c.learn_lost.ensures.read clean (step.after b)
          (made _ _ c.args.self.now.known c.follow_intake.new.self step numbered c.follow_intake.ensures (c.in-Ok.ensures.write (c.learn_lost.ensures.before clean)) b held admits);
      left = λ clean b k held admits new. (c.in-Ok.ensures.left (c.learn_lost.ensures.before clean) b k held.held admits (c.learn_lost.ensures.left clean k new), numbered b held.numbered);
    }

pub returns-in-Err : goal.returns-in-Err
returns-in-Err g c = record {
  before = c.in-Err.ensures.before;
  write = λ clean. not_made _ _ c.args.self.now.known (c.in-Err.ensures.write clean);
  left = λ clean. left_numbered g.S.Store.keeps _ c.args.self.now.known _ _ (Err c.in-Err.fault) (intake_step c.args.intake.now) (intake_numbered (intake_rows c.args.intake.now)) (c.in-Err.ensures.left clean);
}

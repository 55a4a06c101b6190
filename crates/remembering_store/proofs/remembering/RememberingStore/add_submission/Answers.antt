use Rattle.std.specs.Prelude.{Err}
use Rattle.desk_book.specs.Steps.{add_submission}
use Rattle.remembering_store.proofs.Deciding.{not_made, left_numbered}
use Rattle.remembering_store.proofs.Numbered.{added_numbered}
use Rattle.remembering_store.proofs.remembering.RememberingStore.add_submission.Goals as goal

pub returns-in-Ok : goal.returns-in-Ok
returns-in-Ok g c =
    let a = c.args in
    let numbered = added_numbered a.company a.order a.content.now a.retry in
    record {
      before = c.in-Ok.ensures.before;
      write = λ clean b held admits. record {
        held = c.in-Ok.ensures.write clean b held.held admits;
        numbered = numbered b held.numbered;
        known = c.add.ensures b a.retry c.is_some-is_retry.ensures admits held.numbered held.known;
      };
      left = λ clean b k held admits new. (c.in-Ok.ensures.left clean b k held.held admits new, numbered b held.numbered);
    }

pub returns-in-Err : goal.returns-in-Err
returns-in-Err g c =
    let a = c.args in
    record {
      before = c.in-Err.ensures.before;
      write = λ clean. not_made _ _ a.self.now.known (c.in-Err.ensures.write clean);
      left = λ clean. left_numbered g.S.Store.keeps _ a.self.now.known _ _ (Err c.in-Err.fault) (add_submission a.company a.order a.content.now a.retry) (added_numbered a.company a.order a.content.now a.retry) (c.in-Err.ensures.left clean);
    }

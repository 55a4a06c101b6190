use Rattle.desk_book.specs.Steps.{add_submission}
use Rattle.sql_tables.specs.TableEdits.{add_submission_edit}
use Rattle.sql_store.proofs.Writing.{takes}
use Rattle.sql_store.proofs.store.SqlStoreStore.add_submission.Goals as goal

pub returns : goal.returns
returns g c =
    takes g.S.Store (add_submission_edit c.args.company c.args.order c.args.content.now c.args.retry) (add_submission c.args.company c.args.order c.args.content.now c.args.retry) (c.submission_follows.ensures c.args.company c.args.order c.args.content.now c.args.retry) _ _ c.write.result c.write.ensures.done c.write.ensures.undone c.write.ensures.survives

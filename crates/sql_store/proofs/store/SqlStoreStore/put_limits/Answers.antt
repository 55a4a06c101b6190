use Rattle.desk_book.specs.Steps.{put_limits}
use Rattle.sql_tables.specs.TableEdits.{put_limits_edit}
use Rattle.sql_store.proofs.Writing.{takes}
use Rattle.sql_store.proofs.store.SqlStoreStore.put_limits.Goals as goal

pub returns : goal.returns
returns g c =
    takes g.S.Store (put_limits_edit c.args.company c.args.limits) (put_limits c.args.company c.args.limits) (c.limits_follow.ensures c.args.company c.args.limits) _ _ c.write.result c.write.ensures.done c.write.ensures.undone c.write.ensures.survives

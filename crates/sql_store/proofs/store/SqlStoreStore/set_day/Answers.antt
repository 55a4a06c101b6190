use Rattle.desk_book.specs.Steps.{set_day}
use Rattle.sql_tables.specs.TableEdits.{set_day_edit}
use Rattle.sql_store.proofs.Writing.{takes}
use Rattle.sql_store.proofs.store.SqlStoreStore.set_day.Goals as goal

pub returns : goal.returns
returns g c =
    takes g.S.Store (set_day_edit c.args.day) (set_day c.args.day) (c.day_follows.ensures c.args.day) _ _ c.write.result c.write.ensures.done c.write.ensures.undone c.write.ensures.survives

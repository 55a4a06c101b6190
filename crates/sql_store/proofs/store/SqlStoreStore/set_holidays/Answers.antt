use Rattle.desk_book.specs.Steps.{set_holidays}
use Rattle.sql_tables.specs.TableEdits.{set_holidays_edit}
use Rattle.sql_store.proofs.Writing.{takes}
use Rattle.sql_store.proofs.store.SqlStoreStore.set_holidays.Goals as goal

pub returns : goal.returns
returns g c =
    takes g.S.Store (set_holidays_edit c.args.holidays) (set_holidays c.args.holidays) (c.holidays_follow.ensures c.args.holidays) _ _ c.write.result c.write.ensures.done c.write.ensures.undone c.write.ensures.survives

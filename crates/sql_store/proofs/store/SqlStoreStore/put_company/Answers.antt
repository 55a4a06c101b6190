use Rattle.desk_book.specs.Steps.{put_company}
use Rattle.sql_tables.specs.TableEdits.{put_company_edit}
use Rattle.sql_store.proofs.Writing.{takes}
use Rattle.sql_store.proofs.store.SqlStoreStore.put_company.Goals as goal

pub returns : goal.returns
returns g c =
    takes g.S.Store (put_company_edit c.args.company) (put_company c.args.company) (c.company_follows.ensures c.args.company) _ _ c.write.result c.write.ensures.done c.write.ensures.undone c.write.ensures.survives

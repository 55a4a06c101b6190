use Rattle.std.specs.Prelude.{◌≡◌}
use Rattle.sql_tables.specs.TableReads.{last_order}
use Rattle.desk_book.specs.Reads.{submission_count}
use Rattle.sql_store.proofs.Reading.{answers, reads}
use Rattle.sql_store.proofs.store.SqlStoreStore.submission_count.Goals as goal

pub returns : goal.returns
returns g c =
    reads g.S.Store _ _ (λ x t. x ≡ last_order c.args.company t) (submission_count c.args.company) (c.rows_of_tables.ensures.submission_count c.args.company) c.or_unavailable.result (answers _ _ _ _ _ c.or_unavailable.ensures c.last_order.ensures)

use Rattle.std.specs.Prelude.{◌≡◌}
use Rattle.sql_tables.specs.TableReads.{rows_in, is_retry_of}
use Rattle.desk_book.specs.Reads.{retries_of}
use Rattle.sql_store.proofs.Reading.{reads_list}
use Rattle.sql_store.proofs.store.SqlStoreStore.retries_of.Goals as goal

pub returns : goal.returns
returns g c =
    reads_list g.S.Store _ _ (λ x t. x ≡ rows_in (is_retry_of c.args.company c.args.of c.args.index) t) (retries_of c.args.company c.args.of c.args.index) (c.rows_of_tables.ensures.retries_of c.args.company c.args.of c.args.index) c.retries_of.result c.retries_of.ensures

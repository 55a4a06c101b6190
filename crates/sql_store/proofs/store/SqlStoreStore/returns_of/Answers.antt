use Rattle.sql_reads.specs.ItemsFound.{AreReturnRowsOf}
use Rattle.sql_store.proofs.Reading.{reads_list}
use Rattle.sql_store.proofs.store.SqlStoreStore.returns_of.Goals as goal

pub returns : goal.returns
returns g c =
    reads_list g.S.Store _ _ (AreReturnRowsOf c.args.company) (λ b. b.returns c.args.company) (c.rows_of_tables.ensures.returns_of c.args.company) c.returns_of.result c.returns_of.ensures

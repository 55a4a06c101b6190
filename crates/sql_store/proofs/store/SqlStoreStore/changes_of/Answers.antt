use Rattle.sql_reads.specs.ItemsFound.{AreChangeRowsOf}
use Rattle.sql_store.proofs.Reading.{reads_list}
use Rattle.sql_store.proofs.store.SqlStoreStore.changes_of.Goals as goal

pub returns : goal.returns
returns g c =
    reads_list g.S.Store _ _ (AreChangeRowsOf c.args.company) (λ b. b.changes c.args.company) (c.rows_of_tables.ensures.changes_of c.args.company) c.changes_of.result c.changes_of.ensures

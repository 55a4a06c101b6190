use Rattle.std.specs.Prelude.{◌≡◌}
use Rattle.sql_tables.specs.Composed.{waiting_of_in}
use Rattle.desk_book.specs.Reads.{waiting_of}
use Rattle.sql_store.proofs.Reading.{reads_list}
use Rattle.sql_store.proofs.store.SqlStoreStore.waiting_of.Goals as goal

pub returns : goal.returns
returns g c =
    reads_list g.S.Store _ _ (λ x t. x ≡ waiting_of_in c.args.company t) (waiting_of c.args.company) (c.rows_of_tables.ensures.waiting_of c.args.company) c.waiting_of.result c.waiting_of.ensures

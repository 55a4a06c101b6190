use Rattle.std.specs.Prelude.{◌≡◌}
use Rattle.sql_tables.specs.Composed.{waiting_in}
use Rattle.desk_book.specs.Reads.{waiting}
use Rattle.sql_store.proofs.Reading.{reads_list}
use Rattle.sql_store.proofs.store.SqlStoreStore.waiting.Goals as goal

pub returns : goal.returns
returns g c =
    reads_list g.S.Store _ _ (λ x t. x ≡ waiting_in t) (waiting) (c.rows_of_tables.ensures.waiting) c.waiting.result c.waiting.ensures

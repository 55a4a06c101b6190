use Rattle.std.specs.Prelude.{◌≡◌}
use Rattle.desk_book.specs.Sums.{exposures_of}
use Rattle.sql_tables.specs.Composed.{exposures_in}
use Rattle.sql_store.proofs.Reading.{reads}
use Rattle.sql_store.proofs.store.SqlStoreStore.exposures.Goals as goal

pub returns : goal.returns
returns g c =
    reads g.S.Store _ _ (λ x t. x ≡ exposures_in c.args.company c.args.today t.holidays t) (exposures_of c.args.company c.args.today) (c.rows_of_tables.ensures.exposures c.args.company c.args.today) c.exposures.result c.exposures.ensures

use Rattle.std.specs.Prelude.{◌≡◌}
use Rattle.desk_book.specs.Sums.{rates_of}
use Rattle.sql_tables.specs.Composed.{rates_in}
use Rattle.sql_store.proofs.Reading.{reads}
use Rattle.sql_store.proofs.store.SqlStoreStore.rates.Goals as goal

pub returns : goal.returns
returns g c =
    reads g.S.Store _ _ (λ x t. x ≡ rates_in c.args.company c.args.today t) (rates_of c.args.company c.args.today) (c.rows_of_tables.ensures.rates c.args.company c.args.today) c.rates_of.result c.rates_of.ensures

use Rattle.std.specs.Prelude.{◌≡◌}
use Rattle.sql_tables.specs.Composed.{latest_in}
use Rattle.desk_book.specs.Reads.{latest_settled}
use Rattle.sql_store.proofs.Reading.{reads}
use Rattle.sql_store.proofs.store.SqlStoreStore.latest_settled.Goals as goal

pub returns : goal.returns
returns g c =
    reads g.S.Store _ _ (λ x t. x ≡ latest_in c.args.from c.args.to t) (latest_settled c.args.from c.args.to) (c.numbers_of_tables.ensures.latest_settled c.args.from c.args.to) c.latest_settled.result c.latest_settled.ensures

use Rattle.std.specs.Prelude.{◌≡◌}
use Rattle.sql_tables.specs.Composed.{key_in}
use Rattle.desk_book.specs.Reads.{key_of}
use Rattle.sql_store.proofs.Reading.{reads}
use Rattle.sql_store.proofs.store.SqlStoreStore.key_of.Goals as goal

pub returns : goal.returns
returns g c =
    reads g.S.Store _ _ (λ x t. x ≡ key_in c.args.caller t) (key_of c.args.caller) (c.registry_of_tables.ensures.key_of c.args.caller) c.key_of.result c.key_of.ensures

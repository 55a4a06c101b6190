use Rattle.std.specs.Prelude.{◌≡◌}
use Rattle.sql_tables.specs.TableReads.{text_in}
use Rattle.sql_store.proofs.Reading.{reads}
use Rattle.sql_store.proofs.store.SqlStoreStore.file.Goals as goal

pub returns : goal.returns
returns g c =
    reads g.S.Store _ _ (λ x t. x ≡ text_in c.args.day c.args.modifier t) (λ b. b.file c.args.day c.args.modifier) (c.files_of_tables.ensures.file c.args.day c.args.modifier) c.file.result c.file.ensures

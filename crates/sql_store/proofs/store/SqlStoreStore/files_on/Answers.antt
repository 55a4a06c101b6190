use Rattle.std.specs.Prelude.{◌≡◌, length}
use Rattle.sql_tables.specs.TableReads.{modifiers_in}
use Rattle.sql_store.proofs.Reading.{reads}
use Rattle.sql_store.proofs.store.SqlStoreStore.files_on.Goals as goal

pub returns : goal.returns
returns g c =
    reads g.S.Store _ _ (λ x t. x ≡ length (modifiers_in c.args.day t)) (λ b. b.files_on c.args.day) (c.files_of_tables.ensures.files_on c.args.day) c.files_on.result c.files_on.ensures

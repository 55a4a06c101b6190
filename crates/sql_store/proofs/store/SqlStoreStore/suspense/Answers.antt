use Rattle.std.specs.Prelude.{◌≡◌}
use Rattle.sql_tables.specs.TableReads.{suspense_in}
use Rattle.sql_store.proofs.Reading.{answers, reads_list}
use Rattle.sql_store.proofs.store.SqlStoreStore.suspense.Goals as goal

pub returns : goal.returns
returns g c =
    reads_list g.S.Store _ _ (λ x t. x ≡ suspense_in t) (λ b. b.suspense) (c.files_of_tables.ensures.suspense) c.or_unavailable.result (answers _ _ _ _ _ c.or_unavailable.ensures c.suspense.ensures)

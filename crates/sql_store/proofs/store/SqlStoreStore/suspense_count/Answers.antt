use Rattle.std.specs.Prelude.{◌≡◌, length}
use Rattle.sql_tables.specs.TableReads.{number_of_last}
use Rattle.sql_store.proofs.Reading.{answers, reads}
use Rattle.sql_store.proofs.store.SqlStoreStore.suspense_count.Goals as goal

pub returns : goal.returns
returns g c =
    reads g.S.Store _ _ (λ x t. x ≡ number_of_last (λ s. s.number) t.suspense) (λ b. length b.suspense) (c.files_of_tables.ensures.suspense_count) c.or_unavailable.result (answers _ _ _ _ _ c.or_unavailable.ensures c.last_suspense_number.ensures)

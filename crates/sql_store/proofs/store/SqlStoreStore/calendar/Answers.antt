use Rattle.std.specs.Prelude.{◌≡◌}
use Rattle.sql_store.proofs.Reading.{answers, reads}
use Rattle.sql_store.proofs.store.SqlStoreStore.calendar.Goals as goal

pub returns : goal.returns
returns g c =
    reads g.S.Store _ _ (λ x t. x ≡ t.holidays) (λ b. b.holidays) (c.registry_of_tables.ensures.holidays) c.or_unavailable.result (answers _ _ _ _ _ c.or_unavailable.ensures c.calendar.ensures)

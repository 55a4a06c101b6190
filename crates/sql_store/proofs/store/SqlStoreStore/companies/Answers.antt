use Rattle.std.specs.Prelude.{◌≡◌}
use Rattle.sql_store.proofs.Reading.{answers, reads_list}
use Rattle.sql_store.proofs.store.SqlStoreStore.companies.Goals as goal

pub returns : goal.returns
returns g c =
    reads_list g.S.Store _ _ (λ x t. x ≡ t.companies) (λ b. b.companies) (c.registry_of_tables.ensures.companies) c.or_unavailable.result (answers _ _ _ _ _ c.or_unavailable.ensures c.companies.ensures)

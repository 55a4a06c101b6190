use Rattle.std.specs.Prelude.{◌≡◌}
use Rattle.sql_tables.specs.TableReads.{company_in}
use Rattle.desk_book.specs.Reads.{company}
use Rattle.sql_store.proofs.Reading.{answers, reads}
use Rattle.sql_store.proofs.store.SqlStoreStore.company.Goals as goal

pub returns : goal.returns
returns g c =
    reads g.S.Store _ _ (λ x t. x ≡ company_in c.args.id t) (company c.args.id) (c.registry_of_tables.ensures.company c.args.id) c.or_unavailable.result (answers _ _ _ _ _ c.or_unavailable.ensures c.company.ensures)

use Rattle.std.specs.Prelude.{◌≡◌}
use Rattle.sql_tables.specs.TableReads.{taken_in}
use Rattle.sql_store.proofs.Reading.{answers, reads}
use Rattle.sql_store.proofs.store.SqlStoreStore.taken.Goals as goal

pub returns : goal.returns
returns g c =
    reads g.S.Store _ _ (λ x t. x ≡ taken_in c.args.key t) (λ b. b.taken c.args.key) (c.files_of_tables.ensures.taken c.args.key) c.or_unavailable.result (answers _ _ _ _ _ c.or_unavailable.ensures c.taken_file.ensures)

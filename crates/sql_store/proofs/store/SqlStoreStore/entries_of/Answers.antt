use Rattle.std.specs.Prelude.{◌≡◌}
use Rattle.sql_tables.specs.TableReads.{rows_in, is_of}
use Rattle.sql_store.proofs.Reading.{reads_list}
use Rattle.sql_store.proofs.store.SqlStoreStore.entries_of.Goals as goal

pub returns : goal.returns
returns g c =
    reads_list g.S.Store _ _ (λ x t. x ≡ rows_in (is_of c.args.company) t) (λ b. b.rows c.args.company) (c.rows_of_tables.ensures.entries_of c.args.company) c.entries_of.result c.entries_of.ensures

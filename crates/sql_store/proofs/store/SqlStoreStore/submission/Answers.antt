use Rattle.std.specs.Prelude.{◌≡◌}
use Rattle.sql_tables.specs.TableReads.{row_under_in}
use Rattle.desk_book.specs.Reads.{submission}
use Rattle.sql_store.proofs.Reading.{reads}
use Rattle.sql_store.proofs.store.SqlStoreStore.submission.Goals as goal

pub returns : goal.returns
returns g c =
    reads g.S.Store _ _ (λ x t. x ≡ row_under_in c.args.company c.args.reference t) (submission c.args.company c.args.reference) (c.rows_of_tables.ensures.submission c.args.company c.args.reference) c.submission.result c.submission.ensures

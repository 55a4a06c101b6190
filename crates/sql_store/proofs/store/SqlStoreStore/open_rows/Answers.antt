use Rattle.std.proofs.Common.{◌≡◌, ◌∙◌, filter, refl}
use Rattle.desk_book.specs.OpenRows.{is_open_row}
use Rattle.desk_book.specs.Reads.{open_rows_of}
use Rattle.sql_tables.specs.TableReads.{rows_in, is_open_of}
use Rattle.sql_store.proofs.Reading.{reads_list}
use Rattle.sql_store.proofs.store.SqlStoreStore.open_rows.Goals as goal

pub returns : goal.returns
returns g c =
    let company = c.args.company in
    let since = c.args.since in
    reads_list g.S.Store _ _ (λ x t. x ≡ filter (is_open_row since) (rows_in (is_open_of company since) t)) (open_rows_of company since)
    (λ x trees t b stored encodes is. is ∙ c.rows_of_tables.ensures.open_rows company since (rows_in (is_open_of company since) t) trees t b stored encodes refl) c.open_rows.result c.open_rows.ensures

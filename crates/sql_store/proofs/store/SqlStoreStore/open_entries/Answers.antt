use Rattle.std.proofs.Common.{◌≡◌, ◌∙◌, ap, map, refl}
use Rattle.desk_book.specs.OpenSubmissions.{open_entries_of, open_submission}
use Rattle.sql_tables.specs.TableReads.{rows_in, is_open_of}
use Rattle.sql_measures.specs.OpenEntries.{open_entries_in}
use Rattle.sql_store.proofs.Reading.{reads_list}
use Rattle.sql_store.proofs.store.SqlStoreStore.open_entries.Goals as goal

pub returns : goal.returns
returns g c =
    let company = c.args.company in
    let since = c.args.since in
    reads_list g.S.Store _ _ (λ x t. x ≡ open_entries_in company since t) (open_entries_of company since)
    (λ x trees t b stored encodes is. is ∙ ap (map open_submission) (c.rows_of_tables.ensures.open_rows company since (rows_in (is_open_of company since) t) trees t b stored encodes refl)) c.open_entries.result c.open_entries.ensures

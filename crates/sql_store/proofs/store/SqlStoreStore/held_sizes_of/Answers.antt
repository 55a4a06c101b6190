use Rattle.std.proofs.Common.{◌≡◌, ◌∙◌, ap, map, refl}
use Rattle.desk_book.specs.HeldSizes.{held_size, held_sizes_of}
use Rattle.sql_tables.specs.Composed.{waiting_of_in}
use Rattle.sql_reads.specs.HeldSizes.{held_sizes_in}
use Rattle.sql_store.proofs.Reading.{reads_list}
use Rattle.sql_store.proofs.store.SqlStoreStore.held_sizes_of.Goals as goal

pub returns : goal.returns
returns g c =
    let company = c.args.company in
    reads_list g.S.Store _ _ (λ x t. x ≡ held_sizes_in company t) (held_sizes_of company)
    (λ x trees t b stored encodes is. is ∙ ap (map held_size) (c.rows_of_tables.ensures.waiting_of company (waiting_of_in company t) trees t b stored encodes refl)) c.held_sizes_of.result c.held_sizes_of.ensures

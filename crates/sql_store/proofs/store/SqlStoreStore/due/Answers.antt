use Rattle.std.proofs.Common.{◌≡◌, ◌∙◌, ap, refl}
use Rattle.sql_tables.specs.Composed.{waiting_in}
use Rattle.desk_book.specs.OnCut.{due, due_submissions}
use Rattle.sql_store.proofs.Reading.{reads_list}
use Rattle.sql_store.proofs.store.SqlStoreStore.due.Goals as goal

pub returns : goal.returns
returns g c =
    let holidays = c.args.holidays.now in
    let day = c.args.day in
    reads_list g.S.Store _ _ (λ x t. x ≡ due_submissions holidays day (waiting_in t)) (due holidays day)
    (λ x trees t b stored encodes is. is ∙ ap (due_submissions holidays day) (c.rows_of_tables.ensures.waiting (waiting_in t) trees t b stored encodes refl)) c.due.result c.due.ensures

use Rattle.std.proofs.Common.{rules, ◌∙◌, ap, map, filter}
use Rattle.std.proofs.lemmas.Fn.{filter_same}
use Rattle.desk_book.specs.OpenRows.{is_open_row}
use Rattle.sql_tables.specs.TableReads.{whole_row}
use Rattle.sql_read_steps.proofs.InTurn.{query, learnt, both, answered}
use Rattle.sql_reads.proofs.open_row.open_rows.Goals as goal

pub returns : goal.returns
returns g c =
    let since = c.args.since in
    let heads = query (rw c.in_ok-heads.ensures at c.open_submissions.ensures.answer) c.open_submissions.ensures.stays c.open_submissions.ensures.survives in
    answered (both heads (learnt c.rows.ensures c.in_ok-found.was))
    (λ t told.
    filter_same _ (is_open_row since) _ (λ row is_kept next called. (search rules, search rules)) _ _ c.retain.ensures.filtered
    ∙ ap (filter (is_open_row since)) (told.1 ∙ ap (map (whole_row t)) told.0))

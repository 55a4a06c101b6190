use Rattle.std.proofs.Common.{◌∙◌, ap}
use Rattle.std.specs.List.{flat_map}
use Rattle.sql_tables.specs.TableReads.{whole_row}
use Rattle.sql_read_steps.proofs.InTurn.{query, learnt, both, answered}
use Rattle.sql_read_steps.proofs.ListReads.{flat_map_same}
use Rattle.sql_measures.proofs.OpenEntries.{each_open}
use Rattle.sql_measures.specs.OpenEntries.{if_open}
use Rattle.sql_measures.proofs.submissions.open_entries.Goals as goal

pub returns : goal.returns
returns g c =
    let since = c.args.since in
    let heads = query (rw c.in_ok-heads.ensures at c.open_submissions.ensures.answer) c.open_submissions.ensures.stays c.open_submissions.ensures.survives in
    answered (both heads (learnt c.read_each.ensures c.in_ok-lists.was))
    (λ t told.
    c.in_ok-all.ensures
    ∙ flat_map_same (λ list. list.items) (λ head. if_open since (whole_row t head)) c.in_ok-lists.lists.items c.in_ok-heads.heads.items told.1
    ∙ ap (flat_map (λ head. if_open since (whole_row t head))) told.0
    ∙ each_open t since _)

use Rattle.std.proofs.Common.{◌∙◌, ap, map}
use Rattle.sql_tables.specs.TableReads.{whole_row}
use Rattle.sql_read_steps.proofs.InTurn.{query, answered_last}
use Rattle.sql_reads.proofs.rows.entries_of.Goals as goal

pub returns : goal.returns
returns g c =
    let heads = query (rw c.in_ok-heads.ensures at c.submissions_of.ensures.answer) c.submissions_of.ensures.stays c.submissions_of.ensures.survives in
    answered_last heads c.rows.ensures (λ found t are these. these ∙ ap (map (whole_row t)) are)

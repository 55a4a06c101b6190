use Rattle.std.proofs.Common.{◌∙◌, ap, map}
use Rattle.sql_tables.specs.Composed.{change_row_in}
use Rattle.sql_read_steps.proofs.InTurn.{query, answered_last}
use Rattle.sql_reads.proofs.items.changes_of.Goals as goal

pub returns : goal.returns
returns g c =
    let lines = query (rw c.in_ok-lines.ensures at c.change_lines.ensures.answer) c.change_lines.ensures.stays c.change_lines.ensures.survives in
    answered_last lines c.rows_of.ensures (λ found t are these. these ∙ ap (map (change_row_in c.args.company t)) are)

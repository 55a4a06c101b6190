use Rattle.std.proofs.Common.{◌∙◌}
use Rattle.std.proofs.lemmas.Result.{IfOk-weaker}
use Rattle.sql_read_steps.proofs.InTurn.{query, learnt, both, answered}
use Rattle.sql_reads.proofs.WholeRows.{row_is_whole}
use Rattle.sql_reads.proofs.rows.row.Goals as goal

pub returns : goal.returns
returns g c =
    let entries = query (rw c.in_ok-entries.ensures at c.entries_of.ensures.answer) c.entries_of.ensures.stays c.entries_of.ensures.survives in
    let returns = learnt c.returns_for.ensures c.in_ok-returns.was in
    let authorized = learnt c.authorized_for.ensures c.in_ok-authorized.was in
    answered (both (both entries returns) authorized)
    (IfOk-weaker c.row_from.result _ _
    (λ row is t told.
    rw (c.deref.ensures.value, c.deref-2.ensures.value) at is
    ∙ row_is_whole t c.args.head.now c.in_ok-entries.entries.items c.in_ok-returns.returns.items c.in_ok-authorized.authorized told.0.0 told.0.1 told.1)
    c.row_from.ensures)

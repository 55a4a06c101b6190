use Rattle.std.proofs.Common.{◌∙◌, ap, is_some}
use Rattle.sql_read_steps.proofs.InTurn.{query, answered}
use Rattle.sql_reads.proofs.traced.with_return.Goals as goal

pub returns : goal.returns
returns g c =
    let back = query (rw c.in_ok-back.ensures at c.entry_return.ensures.answer) c.entry_return.ensures.stays c.entry_return.ensures.survives in
    answered back
    (λ t is. ap (λ b. record { entry = c.args.entry; returned = b }) (c.is_some-returned.ensures ∙ ap is_some is))

use Rattle.std.proofs.Common.{◌∙◌}
use Rattle.std.proofs.lemmas.Result.{IfOk-weaker}
use Rattle.sql_read_steps.proofs.InTurn.{query, learnt, both, answered}
use Rattle.sql_reads.proofs.HeldSizes.{size_is}
use Rattle.sql_reads.proofs.held_sizes.size.Goals as goal

pub returns : goal.returns
returns g c =
    let cents = query (rw c.in_ok-cents.ensures at c.cents_of.ensures.answer) c.cents_of.ensures.stays c.cents_of.ensures.survives in
    let infos = query (rw c.in_ok-infos.ensures at c.infos_of.ensures.answer) c.infos_of.ensures.stays c.infos_of.ensures.survives in
    let original = learnt c.original_of.ensures c.in_ok-original_settled.was in
    answered (both (both cents infos.so) original)
    (IfOk-weaker c.size_by.result _ _
    (λ size is t told.
    rw c.deref.ensures.value at is
    ∙ size_is t c.args.head.now c.args.company c.in_ok-original_settled.original_settled c.in_ok-cents.cents c.in_ok-infos.infos.items told.0.0 told.0.1 told.1)
    c.size_by.ensures)

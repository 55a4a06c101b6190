use Rattle.sql_reads.proofs.HeldSizes.{sizes_of_heads}
use Rattle.sql_read_steps.proofs.InTurn.{query, learnt, both, answered}
use Rattle.sql_reads.proofs.held_sizes.held_sizes_of.Goals as goal

pub returns : goal.returns
returns g c =
    let heads = query (rw c.in_ok-heads.ensures at c.waiting_submissions.ensures.answer) c.waiting_submissions.ensures.stays c.waiting_submissions.ensures.survives in
    answered (both heads (learnt c.read_each.ensures c.in_ok-found.was))
    (λ t told. sizes_of_heads c.args.company.now t c.in_ok-found.found.items c.in_ok-heads.heads.items told.0 told.1)

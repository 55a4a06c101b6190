use Rattle.memory_store.proofs.waiting.waiting_like.Goals as goal

pub returns : goal.returns
returns c = λ finds. (λ i. record { company = c.args.company; row = c.in_ok-row.ensures i; original_settled = c.original_settlement-original_settled.ensures finds i })

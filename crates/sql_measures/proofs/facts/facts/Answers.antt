use Rattle.std.proofs.Common.{◌∙◌, map}
use Rattle.sql_tables.specs.Composed.{fact_among}
use Rattle.sql_read_steps.proofs.InTurn.{query, both, answered}
use Rattle.sql_measures.proofs.RowFacts.{facts_are}
use Rattle.sql_measures.proofs.facts.facts.Goals as goal

pub returns : goal.returns
returns g c =
    let amounts = query (rw c.in_ok-amounts.ensures at c.amounts_of.ensures.answer) c.amounts_of.ensures.stays c.amounts_of.ensures.survives in
    let returns = query (rw c.in_ok-returns.ensures at c.returns.ensures.answer) c.returns.ensures.stays c.returns.ensures.survives in
    answered (both amounts returns.so)
    (λ t told.
    rw (c.deref.ensures.value, c.deref-2.ensures.value) at c.in_ok-found.ensures
    ∙ (λ i. map (fact_among c.args.head.now (told.1 i)) (told.0 i))
    ∙ facts_are t c.args.head.now)

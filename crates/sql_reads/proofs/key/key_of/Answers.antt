use Rattle.std.proofs.Common.{◌∙◌, ap, sym, Some}
use Rattle.sql_tables.specs.Composed.{key_in}
use Rattle.sql_read_steps.proofs.InTurn.{query, answered}
use Rattle.sql_reads.proofs.key.key_of.Goals as goal

pub returns-in_ok-key-in-Operator : goal.returns-in_ok-key-in-Operator
returns-in_ok-key-in-Operator g c =
    let key = query (rw c.in_ok-key-in-Operator.ensures at c.operator_key.ensures.answer) c.operator_key.ensures.stays c.operator_key.ensures.survives in
    answered key (λ t is. ap Some is ∙ ap (λ k. key_in k t) (sym c.in-Operator.is))

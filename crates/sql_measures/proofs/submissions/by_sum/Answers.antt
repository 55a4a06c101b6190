use Rattle.std.proofs.Common.{◌≡◌, ◌<◌, ◌∙◌, ap, sym, arith, false}
use Rattle.desk_rules.specs.LimitChecks.{is_debit}
use Rattle.sql_read_steps.proofs.InTurn.{query, read, both, answered}
use Rattle.sql_measures.proofs.OpenEntries.{read_sum}
use Rattle.sql_measures.proofs.submissions.by_sum.Goals as goal

pub returns-in_ok-found : goal.returns-in_ok-found
returns-in_ok-found g c =
    answered (both (query (rw c.in_ok-total.ensures at c.cents_of.ensures.answer) c.cents_of.ensures.stays c.cents_of.ensures.survives) (read c.by_facts.ensures c.in_ok-found.was).so)
    (λ t told. told.1)

pub returns-in_ok-found-2 : goal.returns-in_ok-found-2
returns-in_ok-found-2 g c =
    answered (query (rw c.in_ok-total.ensures at c.cents_of.ensures.answer) c.cents_of.ensures.stays c.cents_of.ensures.survives)
    (λ t is since counts.
    let same = c.from.ensures in
    let above = c.if-total-eq0.false in
    c.in_ok-found-2.ensures ∙ read_sum t c.args.head.now since counts c.from.result c.new.result.items (ap is_debit c.requires) (same ∙ is) (omega (arith, same, above)) c.new.ensures.items)

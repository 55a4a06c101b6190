use Rattle.std.proofs.Common.{◌∙◌, sym, ap}
use Rattle.sql_query_laws.proofs.Selects.{each_itself}
use Rattle.sql_tables.specs.Composed.{exposures_in}
use Rattle.sql_read_steps.proofs.InTurn.{query, read, learnt, both, answered}
use Rattle.sql_measures.proofs.OpenHeads.{exposures_summed}
use Rattle.sql_measures.proofs.open_cents.exposures.Goals as goal

pub returns : goal.returns
returns g c =
    let calendar = query (rw c.in_ok-calendar.ensures at c.calendar.ensures.answer) c.calendar.ensures.stays c.calendar.ensures.survives in
    let heads = read c.exposed_submissions.ensures c.in_ok-heads.was in
    let credit = rw c.deref.ensures.value at c.credits_of.ensures in
    let debit = rw c.deref-2.ensures.value at c.debits_of.ensures in
    answered (both (both calendar heads.so) (learnt c.read_each.ensures c.in_ok-pairs.was))
    (λ t told.
    (λ i. (credit i, debit i))
    ∙ exposures_summed t c.args.today c.in_ok-calendar.calendar c.in_ok-pairs.pairs.items c.in_ok-heads.heads.items (sym (each_itself c.in_ok-pairs.pairs.items) ∙ told.1)
    ∙ told.0.1
    ∙ ap (λ days. exposures_in c.args.company c.args.today days t) told.0.0)

use Rattle.std.proofs.Common.{◌≡◌, ◌∙◌, ◌+◌, ap, sym, List, ◌∷◌, drop, ℕ, Option}
use Rattle.std.proofs.lemmas.List.{drop_more}
use Rattle.sql_tables.specs.Composed.{traced_in}
use Rattle.sql_read_steps.proofs.InTurn.{told_then, told_as, learnt}
use Rattle.sql_read_steps.proofs.ListReads.{read_more}
use Rattle.sql_reads.proofs.traced.each_traced.Goals as goal

pub loop-trace-preserved : goal.loop-trace-preserved
loop-trace-preserved g c =
    let traces = c.args.traces.now in
    let at = c.loop-trace.trace-index in
    let trace = c.trace-item.result in
    let later = drop (at + 1) traces in
    let split : drop at traces ≡ trace ∷ later = drop_more traces at trace c.loop-trace-test.true ∙ ap (λ (one : Option (List ℕ)). one ∷ later) (sym c.trace-item.is) in
    told_as
    (λ t told.
    let so = told.1 told.0.0 in
    (so.1, read_more (λ o. o) (traced_in c.args.dfi t) _ c.loop-trace.all.items _ c.in_ok-traced_entry.field-0 (drop at traces) trace later told.0.1 split c.in_ok-push.ensures.items so.0))
    (told_then c.loop-trace.invariant (learnt c.traced_entry.ensures c.in_ok-traced_entry.was))

use Rattle.std.proofs.Common.{◌≡◌, ◌∙◌, ◌+◌, ap, sym, ◌∷◌, drop}
use Rattle.std.proofs.lemmas.List.{drop_more}
use Rattle.sql_tables.specs.declared.row.entries.EntryPlace.{EntryPlace}
use Rattle.sql_read_steps.proofs.InTurn.{told_then, told_as, learnt}
use Rattle.sql_read_steps.proofs.ListReads.{read_more}
use Rattle.sql_reads.specs.SettledPlaces.{settled_with}
use Rattle.sql_reads.proofs.latest.each_settled.Goals as goal

pub loop-entry-preserved : goal.loop-entry-preserved
loop-entry-preserved g c =
    let sent = c.args.sent.now in
    let at = c.loop-entry.entry-index in
    let entry = c.entry-item.result in
    let later = drop (at + 1) sent in
    let split : drop at sent ≡ entry ∷ later = drop_more sent at entry c.loop-entry-test.true ∙ ap (λ (one : EntryPlace). one ∷ later) (sym c.entry-item.is) in
    told_as
    (λ t told.
    let so = told.1 told.0.0 in
    (so.1, read_more (λ o. o) (settled_with t) _ c.loop-entry.all.items _ c.in_ok-settled_with.field-0 (drop at sent) entry later told.0.1 split c.in_ok-push.ensures.items so.0))
    (told_then c.loop-entry.invariant (learnt c.settled_with.ensures c.in_ok-settled_with.was))

use Rattle.std.proofs.Common.{◌∙◌, ap, sym, Option, option_and_then}
use Rattle.sql_tables.specs.Composed.{sent_with}
use Rattle.sql_tables.specs.TableReads.{facts_in}
use Rattle.sql_tables.specs.declared.row.entries.PlacedEntry.{PlacedEntry}
use Rattle.sql_read_steps.proofs.InTurn.{query, answered_last}
use Rattle.sql_reads.proofs.traced.sent_at.Goals as goal

pub returns-in-Some : goal.returns-in-Some
returns-in-Some g c =
    let placed = query (rw c.in_ok-placed.ensures at c.sent_entry.ensures.answer) c.sent_entry.ensures.stays c.sent_entry.ensures.survives in
    answered_last placed c.sent_with.ensures
    (λ found t is these known.
    let so = these known in
    (so.0 ∙ ap (λ (o : Option PlacedEntry). option_and_then (λ (p : PlacedEntry). sent_with c.args.sequence p (facts_in p.company p.order t)) o) (sym c.in-Some.is ∙ is), so.1))

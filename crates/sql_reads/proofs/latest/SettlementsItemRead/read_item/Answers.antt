use Rattle.std.proofs.Common.{◌∙◌, ap, sym, Option, option_and_then}
use Rattle.sql_tables.specs.TableReads.{facts_in}
use Rattle.sql_tables.specs.declared.row.entries.PlacedEntry.{PlacedEntry}
use Rattle.sql_tables.specs.declared.row.submissions.SubmissionFacts.{SubmissionFacts}
use Rattle.sql_read_steps.proofs.InTurn.{query, asked, answered_last}
use Rattle.sql_reads.proofs.latest.SettlementsItemRead.read_item.Goals as goal

pub returns-in-Some : goal.returns-in-Some
returns-in-Some g c =
    let placed = query (rw c.in_ok-placed.ensures at c.sent_entry.ensures.answer) c.sent_entry.ensures.stays c.sent_entry.ensures.survives in
    asked
    (answered_last placed c.settlement_of.ensures
    (λ found t is these. these ∙ ap (λ (o : Option PlacedEntry). option_and_then (λ (p : PlacedEntry). option_and_then (λ (f : SubmissionFacts). f.settled) (facts_in p.company p.order t)) o) (sym c.in-Some.is ∙ is)))

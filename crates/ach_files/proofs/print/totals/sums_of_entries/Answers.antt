use Rattle.std.proofs.Common.{ap, sym, ◌∙◌, refl, take_all}
use Rattle.ach_files.specs.Outgoing.{batch_sums, capped_sums}
use Rattle.ach_files.proofs.Outgoings.{entries_more}
use Rattle.ach_files.proofs.print.totals.sums_of_entries.Goals as goal

pub loop-entry-init : goal.loop-entry-init
unfolding batch_sums capped_sums
loop-entry-init c = refl

pub loop-entry-preserved : goal.loop-entry-preserved
loop-entry-preserved c = c.add_sums-sums.ensures _ _ c.loop-entry.invariant c.sums_of_entry.ensures ∙ ap capped_sums (sym (entries_more c.args.entries.now c.loop-entry.entry-index c.entry-item.result c.loop-entry-test.true c.entry-item.is))

pub returns : goal.returns
returns c = c.loop-entry.invariant ∙ ap (λ es. capped_sums (batch_sums es)) (take_all _ _ c.loop-entry-test.false)

use Rattle.std.proofs.lemmas.Result.{err_from_is_err_and}
use Rattle.ach_files.specs.Outgoing.{entry_rows}
use Rattle.ach_files.proofs.Pages.{begins_more, fit_item, puts_more}
use Rattle.ach_files.proofs.print.page.put_entries.Goals as goal

pub put_entry-requires : goal.put_entry-requires
put_entry-requires c = fit_item entry_rows c.args.entries.now c.loop-entry.entry-index c.entry-item.result c.requires c.loop-entry-test.true c.entry-item.is

pub loop-entry-preserved : goal.loop-entry-preserved
loop-entry-preserved c = puts_more entry_rows c.args.entries.now c.loop-entry.entry-index c.entry-item.result c.args.out.now.items _ _ c.loop-entry-test.true c.entry-item.is c.loop-entry.invariant c.in_ok-put_entry.ensures.ok

pub returns-in_err-put_entry-clause-err : goal.returns-in_err-put_entry-clause-err
returns-in_err-put_entry-clause-err c =
    let p = err_from_is_err_and c.from_residual.result c.from_residual.ensures.1 in
    rw p.1 (begins_more _ _ _ _ c.loop-entry.invariant c.in_err-put_entry.ensures.err)

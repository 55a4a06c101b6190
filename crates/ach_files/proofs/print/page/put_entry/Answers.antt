use Rattle.std.proofs.Common.{◌≡◌, true}
use Rattle.std.proofs.lemmas.Bool.{and_parts}
use Rattle.ach_records.specs.Print.{row_fits, entry_row}
use Rattle.ach_files.specs.Outgoing.{entry_rows, entry_of, addenda_rows}
use Rattle.ach_files.proofs.Pages.{page_two, there}
use Rattle.ach_files.proofs.print.page.put_entry.Goals as goal

pub put_addenda-requires : goal.put_addenda-requires
unfolding entry_rows
put_addenda-requires c = (and_parts _ _ c.requires).1

pub returns-clause-ok : goal.returns-clause-ok
unfolding entry_rows
returns-clause-ok c =
    let e = c.args.entry.now in
    let first = entry_row (entry_of e) in
    let fits : row_fits first ≡ true = (and_parts _ _ c.requires).0 in
    page_two c.args.out.now.items c.put_record.new.out.items c.put_addenda.new.out.items first (addenda_rows e.trace e.addenda) (c.in_ok-put_record.ensures.ok first c.entry_record.ensures) c.in_ok-put_addenda.ensures.ok

pub put_record-requires : goal.put_record-requires
unfolding entry_rows
put_record-requires c = there _ (entry_row (entry_of c.args.entry.now)) c.entry_record.ensures ((and_parts _ _ c.requires).0)

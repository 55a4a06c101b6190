use Rattle.std.specs.List.{flat_map}
use Rattle.ach_records.specs.Print.{batch_header_row, batch_control_row}
use Rattle.ach_files.specs.Outgoing.{entry_rows, batch_rows, batch_control}
use Rattle.ach_files.proofs.Pages.{around, around_fits, there}
use Rattle.ach_files.proofs.print.page.put_batch.Goals as goal

pub put_entries-requires : goal.put_entries-requires
unfolding batch_rows
put_entries-requires c =
    let b = c.args.batch.now in
    (around_fits (batch_header_row b.header) (batch_control_row (batch_control b)) (flat_map entry_rows b.entries.now) c.requires).1

pub returns-clause-ok : goal.returns-clause-ok
unfolding batch_rows
returns-clause-ok c =
    let b = c.args.batch.now in
    let first = batch_header_row b.header in
    let last = batch_control_row (batch_control b) in
    let rows = flat_map entry_rows b.entries.now in
    let f = around_fits first last rows c.requires in
    around c.args.out.now.items c.put_record.new.out.items c.put_entries.new.out.items c.put_record-2.new.out.items first last rows
    (c.in_ok-put_record.ensures.ok first c.batch_header_record.ensures)
    c.in_ok-put_entries.ensures.ok
    (c.in_ok-put_record-2.ensures.ok last c.batch_control_record.ensures)

pub put_record-requires : goal.put_record-requires
unfolding batch_rows
put_record-requires c =
    let o = c.args.batch.now in
    let f = around_fits (batch_header_row o.header) (batch_control_row (batch_control o)) (flat_map entry_rows o.entries.now) c.requires in
    there _ (batch_header_row o.header) c.batch_header_record.ensures f.0

pub put_record-requires-2 : goal.put_record-requires-2
unfolding batch_rows
put_record-requires-2 c =
    let o = c.args.batch.now in
    let f = around_fits (batch_header_row o.header) (batch_control_row (batch_control o)) (flat_map entry_rows o.entries.now) c.requires in
    there _ (batch_control_row (batch_control o)) c.batch_control_record.ensures f.2

pub batch_control_record-requires : goal.batch_control_record-requires
unfolding batch_rows
batch_control_record-requires c =
    let b = c.args.batch.now in
    (around_fits (batch_header_row b.header) (batch_control_row (batch_control b)) (flat_map entry_rows b.entries.now) c.requires).2

use Rattle.std.proofs.Common.{◌∙◌, ◌++◌, ◌∷◌, [], ap}
use Rattle.std.specs.List.{flat_map}
use Rattle.ach_records.specs.declared.print.FileControlText.{FileControlText}
use Rattle.ach_records.specs.Print.{row_fits, row_text, file_header_row, file_control_row}
use Rattle.ach_files.specs.Outgoing.{batch_rows, outgoing_rows, file_control}
use Rattle.ach_files.proofs.Pages.{around, around_fits, there}
use Rattle.ach_files.proofs.print.page.put_rows.Goals as goal

pub put_batches-requires : goal.put_batches-requires
unfolding outgoing_rows
put_batches-requires c =
    let o = c.args.outgoing.now in
    (around_fits (file_header_row o.header) (file_control_row (file_control o)) (flat_map batch_rows o.batches.now) c.requires.fit).1

pub returns : goal.returns
unfolding outgoing_rows
returns c =
    let o = c.args.outgoing.now in
    let first = file_header_row o.header in
    let last = file_control_row (file_control o) in
    let rows = flat_map batch_rows o.batches.now in
    around c.args.out.now.items c.put_record.new.out.items c.put_batches.new.out.items c.put_control.new.out.items first last rows
    (c.in_ok-put_record.ensures.ok first c.file_header_record.ensures)
    c.in_ok-put_batches.ensures
    (c.in_ok-put_control.ensures ∙ ap (λ (t : FileControlText). c.put_batches.new.out.items ++ (row_text (file_control_row t) ++ 10 ∷ [])) c.requires.control)

pub put_record-requires : goal.put_record-requires
unfolding outgoing_rows
put_record-requires c =
    let o = c.args.outgoing.now in
    let f = around_fits (file_header_row o.header) (file_control_row (file_control o)) (flat_map batch_rows o.batches.now) c.requires.fit in
    there _ (file_header_row o.header) c.file_header_record.ensures f.0

pub put_control-requires : goal.put_control-requires
unfolding outgoing_rows
put_control-requires c =
    let o = c.args.outgoing.now in
    let f = around_fits (file_header_row o.header) (file_control_row (file_control o)) (flat_map batch_rows o.batches.now) c.requires.fit in
    ap (λ (t : FileControlText). row_fits (file_control_row t)) c.requires.control ∙ f.2

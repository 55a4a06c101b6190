use Rattle.desk_history.specs.Files.{File, outgoing}
use Rattle.std.proofs.Common.{map}
use Rattle.ach_files.specs.Outgoing.{print_fault}
use Rattle.desk_cut.specs.Sendable.{IsSendable}
use Rattle.desk_cut.specs.Sent.{batch_in}
use Rattle.desk_cut.proofs.Plain.{header_same}
use Rattle.desk_cut.proofs.Sendings.{each_before}
use Rattle.desk_cut.proofs.Totals.{file_prints, only_memory}
use Rattle.desk_cut.proofs.printing.text_of.Goals as goal

pub put_batches-requires-clause-sendable : goal.put_batches-requires-clause-sendable
put_batches-requires-clause-sendable c = each_before IsSendable batch_in c.args.batches.now c.requires.batches.each

pub out_of_memory-requires-in-Err-finish : goal.out_of_memory-requires-in-Err-finish
out_of_memory-requires-in-Err-finish c =
    let file : File = record { day = c.args.day; modifier = c.args.modifier; batches = map batch_in c.args.batches.now } in
    let o = outgoing c.args.identity.now file in
    let printed = header_same _ _ _ _ c.file_header-header.ensures.value (c.in_ok-put_batches.ensures _ c.in-Ok.ensures.ok) in
    only_memory c.in-Err-finish.fault (print_fault o) (file_prints c.args.identity.now file c.put_batches.new.printer c.requires.batches printed) (c.in-Err-finish.ensures.err o printed)

pub returns-in-Ok-finish : goal.returns-in-Ok-finish
returns-in-Ok-finish c =
    let o = outgoing c.args.identity.now (record { day = c.args.day; modifier = c.args.modifier; batches = map batch_in c.args.batches.now }) in
    (c.in-Ok-finish.ensures.ok o (header_same _ _ _ _ c.file_header-header.ensures.value (c.in_ok-put_batches.ensures _ c.in-Ok.ensures.ok))).1

use Rattle.std.proofs.Common.{◌≡◌, ℕ, true}
use Rattle.std.proofs.lemmas.Bool.{and_from}
use Rattle.std.specs.List.{list_all}
use Rattle.ach_records.specs.Print.{row_fits, batch_header_row}
use Rattle.ach_files.specs.declared.outgoing.OutgoingBatch.{OutgoingBatch}
use Rattle.ach_files.specs.Outgoing.{entry_fits, batch_fits, batch_fault}
use Rattle.desk_history.specs.Files.{borrow_of, outgoing_batch}
use Rattle.desk_history.specs.Sendings.{NumberedBatch}
use Rattle.desk_cut.specs.Plain.{plain_batch}
use Rattle.desk_cut.specs.Sent.{batch_in}
use Rattle.desk_cut.proofs.Plain.{same_printed}
use Rattle.desk_cut.proofs.Totals.{batch_prints, only_memory}
use Rattle.desk_cut.proofs.printing.print_batch.Goals as goal

fits : (b : OutgoingBatch) → row_fits (batch_header_row b.header) ≡ true → list_all entry_fits b.entries.now ≡ true → batch_fits b ≡ true
unfolding batch_fits
fits b header entries = and_from _ _ header entries

pub out_of_memory-requires : goal.out_of_memory-requires
out_of_memory-requires c =
    let b : OutgoingBatch = record { header = c.batch_header-header.result; entries = c.args.entries } in
    let x : ℕ × NumberedBatch = (c.args.number, batch_in c.args.batch.now) in
    let is : plain_batch b ≡ outgoing_batch c.args.odfi x = λ i. record { header = c.batch_header-header.ensures.value i; entries = borrow_of (c.requires.entries i) } in
    only_memory c.in-Err.fault (batch_fault b) (batch_prints c.args.odfi x b is c.requires.sendable (fits b c.batch_header-header.ensures.fits c.requires.fits)) c.in-Err.ensures.err

pub returns-in-Ok : goal.returns-in-Ok
returns-in-Ok c = λ header before h.
    let b : OutgoingBatch = record { header = c.batch_header-header.result; entries = c.args.entries } in
    let wanted = outgoing_batch c.args.odfi (c.args.number, batch_in c.args.batch.now) in
    let is : plain_batch b ≡ wanted = λ i. record { header = c.batch_header-header.ensures.value i; entries = borrow_of (c.requires.entries i) } in
    same_printed c.put.new.self header before b wanted is (c.in-Ok.ensures.ok header before h)

-- The value to print, with each slice borrowed from nowhere: the printed text depends only on the contents of the
-- slices.
use Rattle.std.specs.Prelude.{map}
use Rattle.ach_records.specs.declared.print.BatchHeaderText.{BatchHeaderText}
use Rattle.ach_records.specs.declared.print.FileHeaderText.{FileHeaderText}
use Rattle.ach_files.specs.declared.outgoing.Addenda.{Addenda}
use Rattle.ach_files.specs.declared.outgoing.Addenda.TheVariants as addendas
use Rattle.ach_files.specs.declared.outgoing.OutgoingBatch.{OutgoingBatch}
use Rattle.ach_files.specs.declared.outgoing.OutgoingEntry.{OutgoingEntry}
use Rattle.desk_history.specs.Files.{borrow_of}

abbrev pub plain_addenda : Addenda → Addenda
plain_addenda (addendas.Payment information) = addendas.Payment (borrow_of information.now)
plain_addenda addendas.Absent = addendas.Absent
plain_addenda (addendas.Change c) = addendas.Change c
plain_addenda (addendas.Return r) = addendas.Return r

abbrev pub plain_entry : OutgoingEntry → OutgoingEntry
plain_entry e = record e {
  account = borrow_of e.account.now;
  identification = borrow_of e.identification.now;
  name = borrow_of e.name.now;
  addenda = plain_addenda e.addenda;
}

abbrev pub plain_batch_header : BatchHeaderText → BatchHeaderText
plain_batch_header h = record h {
  company_name = borrow_of h.company_name.now;
  company = borrow_of h.company.now;
  sec = borrow_of h.sec.now;
  description = borrow_of h.description.now;
}

abbrev pub plain_batch : OutgoingBatch → OutgoingBatch
plain_batch b = record { header = plain_batch_header b.header; entries = borrow_of (map plain_entry b.entries.now) }

abbrev pub plain_file_header : FileHeaderText → FileHeaderText
plain_file_header h = record h {
  modifier = borrow_of h.modifier.now;
  destination_name = borrow_of h.destination_name.now;
  origin_name = borrow_of h.origin_name.now;
}

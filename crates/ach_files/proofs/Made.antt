-- Rows that have texts are records of their kind.
use Rattle.std.proofs.Common.{◌≡◌, true}
use Rattle.ach_records.specs.Record.{IsRecord}
use Rattle.ach_records.specs.Print.{row_fits, row_text, entry_row, file_header_row, batch_header_row, change98_row, return99_row, batch_control_row, file_control_row}
use Rattle.ach_records.specs.declared.Kind.TheVariants as kinds
use Rattle.ach_records.specs.declared.print.EntryText.{EntryText}
use Rattle.ach_records.specs.declared.print.FileHeaderText.{FileHeaderText}
use Rattle.ach_records.specs.declared.print.BatchHeaderText.{BatchHeaderText}
use Rattle.ach_records.specs.declared.print.Change98Text.{Change98Text}
use Rattle.ach_records.specs.declared.print.Return99Text.{Return99Text}
use Rattle.ach_records.specs.declared.print.BatchControlText.{BatchControlText}
use Rattle.ach_records.specs.declared.print.FileControlText.{FileControlText}
use Rattle.ach_records.proofs.Printed.{printed_is_viewed}

pub entry_made : (e : EntryText) → row_fits (entry_row e) ≡ true → IsRecord kinds.Entry (row_text (entry_row e))
entry_made e fits = (printed_is_viewed.entry e fits).is_record

pub header_made : (h : FileHeaderText) → row_fits (file_header_row h) ≡ true → IsRecord kinds.FileHeader (row_text (file_header_row h))
header_made h fits = (printed_is_viewed.file_header h fits).is_record

pub batch_made : (h : BatchHeaderText) → row_fits (batch_header_row h) ≡ true → IsRecord kinds.BatchHeader (row_text (batch_header_row h))
batch_made h fits = (printed_is_viewed.batch_header h fits).is_record

pub change_made : (c : Change98Text) → row_fits (change98_row c) ≡ true → IsRecord kinds.Change98 (row_text (change98_row c))
change_made c fits = (printed_is_viewed.change98 c fits).is_record

pub return_made : (r : Return99Text) → row_fits (return99_row r) ≡ true → IsRecord kinds.Return99 (row_text (return99_row r))
return_made r fits = (printed_is_viewed.return99 r fits).is_record

pub control_made : (c : BatchControlText) → row_fits (batch_control_row c) ≡ true → IsRecord kinds.BatchControl (row_text (batch_control_row c))
control_made c fits = (printed_is_viewed.batch_control c fits).is_record

pub file_made : (c : FileControlText) → row_fits (file_control_row c) ≡ true → IsRecord kinds.FileControl (row_text (file_control_row c))
file_made c fits = (printed_is_viewed.file_control c fits).is_record

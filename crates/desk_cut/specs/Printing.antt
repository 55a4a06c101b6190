-- The promises of printing a file.
use Rattle.std.specs.Prelude.{◌≡◌, ◌≤◌, ℕ, List, [], ◌∷◌, ◌++◌, map, Result, OnOk}
use Rattle.std.specs.List.{enumerate_from}
use Rattle.ach_fields.specs.Trace.{sequence_in, most_sequence}
use Rattle.ach_records.specs.declared.print.BatchHeaderText.{BatchHeaderText}
use Rattle.ach_records.specs.declared.print.FileHeaderText.{FileHeaderText}
use Rattle.ach_files.specs.declared.outgoing.Addenda.{Addenda}
use Rattle.ach_files.specs.declared.outgoing.OutgoingBatch.{OutgoingBatch}
use Rattle.ach_files.specs.declared.outgoing.OutgoingEntry.{OutgoingEntry}
use Rattle.ach_files.specs.declared.print.printer.Printer.{Printer}
use Rattle.ach_files.specs.Outgoing.{AllFit, addenda_rows}
use Rattle.ach_files.specs.Printing.{HasPrinted}
use Rattle.desk_history.specs.Files.{outgoing_batch}
use Rattle.desk_history.specs.Sendings.{NumberedBatch}
use Rattle.desk_cut.specs.Plain.{plain_entry}
use Rattle.desk_cut.specs.Sent.{outgoing_entries}

-- its record has a text, after whatever entry
abbrev pub AddendaFit : Addenda → Type 0
AddendaFit a = (trace : List ℕ) → sequence_in trace ≤ most_sequence → AllFit (addenda_rows trace a)

-- they hold what is printed of the entries of a batch
abbrev pub AreEntriesOf : (odfi : List ℕ) → NumberedBatch → List OutgoingEntry → Type 0
AreEntriesOf odfi b es = map plain_entry es ≡ outgoing_entries odfi b

-- the header of a batch with its number, as it is printed
abbrev pub outgoing_header : (odfi : List ℕ) → (number : ℕ) → NumberedBatch → BatchHeaderText
outgoing_header odfi number b = (outgoing_batch odfi (number, b)).header

-- the batches of a file as they are printed, numbered from 1
abbrev pub outgoing_batches : (odfi : List ℕ) → List NumberedBatch → List OutgoingBatch
outgoing_batches odfi bs = map (outgoing_batch odfi) (enumerate_from 1 bs)

-- On success the batch is printed after everything printed before.
abbrev pub Prints : {A E : Type 0} → (old new : Printer) → Result A E → OutgoingBatch → Type 0
Prints old new result b =
    (header : FileHeaderText) (before : List OutgoingBatch) → HasPrinted old header before
    → OnOk result (HasPrinted new header (before ++ b ∷ []))

-- On success, and if no batch was printed before, these are printed.
abbrev pub PrintsAll : {A E : Type 0} → (old new : Printer) → Result A E → List OutgoingBatch → Type 0
PrintsAll old new result bs =
    (header : FileHeaderText) → HasPrinted old header [] → OnOk result (HasPrinted new header bs)

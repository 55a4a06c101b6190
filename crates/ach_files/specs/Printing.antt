-- A file that is printed batch by batch.
use Rattle.std.specs.Prelude.{◌≡◌, ◌≤◌, ℕ, ◌+◌, ◌*◌, Bool, not, List, [], ◌∷◌, ◌++◌, map, length, min, Option, Some, None, Result, OnOk, OnErr, if◌then◌else◌}
use Rattle.std.specs.List.{flat_map, list_any}
use Rattle.ach_records.specs.declared.print.FileControlText.{FileControlText}
use Rattle.ach_records.specs.declared.print.FileHeaderText.{FileHeaderText}
use Rattle.ach_records.specs.Print.{row_text, file_header_row}
use Rattle.ach_files.specs.declared.sums.Sums.{Sums}
use Rattle.ach_files.specs.declared.outgoing.Outgoing.{Outgoing}
use Rattle.ach_files.specs.declared.outgoing.OutgoingBatch.{OutgoingBatch}
use Rattle.ach_files.specs.declared.outgoing.PrintFault.{PrintFault}
use Rattle.ach_files.specs.declared.outgoing.PrintFault.TheVariants as faults
use Rattle.ach_files.specs.declared.print.measures.Measures.{Measures}
use Rattle.ach_files.specs.declared.print.printer.Printer.{Printer}
use Rattle.ach_files.specs.Limits.{six_digits, eight_digits}
use Rattle.ach_files.specs.Totals.{blocks}
use Rattle.ach_files.specs.ReaderState.{joint_sums}
use Rattle.ach_files.specs.Outgoing.{batch_rows, file_sums, sums_of, capped_sums, is_large, is_long_batch, file_control, totals_fault, page, AllFit}

-- it has printed a header and these batches, whose rows have texts; of their number it keeps whether it has six digits
pub record HasPrinted (p : Printer) (header : FileHeaderText) (batches : List OutgoingBatch) : Type 0 where
  pub fits : AllFit (file_header_row header ∷ flat_map batch_rows batches)
  pub text : p.text.items ≡ page (map row_text (file_header_row header ∷ flat_map batch_rows batches))
  pub count : p.batches ≡ min (length batches) (six_digits + 1)
  pub sums : p.sums ≡ capped_sums (file_sums batches)

-- it has printed the header and the batches of a file
abbrev pub HasPrintedAll : Printer → Outgoing → Type 0
HasPrintedAll p o = HasPrinted p o.header o.batches.now

-- the batch is printed after those before
abbrev pub PrintsBatch : (old new : Printer) → OutgoingBatch → Result (Unit {0}) PrintFault → Type 0
PrintsBatch old new batch result =
    (header : FileHeaderText) (before : List OutgoingBatch) → HasPrinted old header before →
    OnOk result (HasPrinted new header (before ++ batch ∷ []))

-- where a batch is refused, those before stay printed
abbrev pub StaysPrinted : (old new : Printer) → Result (Unit {0}) PrintFault → Type 0
StaysPrinted old new result =
    (header : FileHeaderText) (before : List OutgoingBatch) → HasPrinted old header before →
    OnErr result (HasPrinted new header before)

-- ---- measures, and the control that follows from them

-- what is wrong with batches of these measures
abbrev pub measures_fault : Measures → Option PrintFault
measures_fault m =
    if not m.fit then Some faults.BadField
    else if is_large m.sums then Some faults.TotalTooLarge
    else if m.is_any_long then Some faults.TooManyRecords
    else None

-- it is what the code keeps of the sums of both
abbrev pub AddsUp : (a b sum : Sums) → Type 0
AddsUp a b sum = (x y : Sums) → a ≡ capped_sums x → b ≡ capped_sums y → sum ≡ capped_sums (joint_sums x y)

-- a fact about each file with this many batches (or a million, if it has more), with or without a long one, and these
-- sums
abbrev pub ForMeasured : (batches : ℕ) → (is_any_long : Bool) → Sums → (Outgoing → Type 0) → Type 0
ForMeasured batches is_any_long sums P =
    (o : Outgoing) → batches ≡ min (length o.batches.now) (six_digits + 1) →
    is_any_long ≡ list_any is_long_batch o.batches.now → sums ≡ capped_sums (sums_of o) → P o

-- the control of the file, whose numbers have no fault
abbrev pub IsControlOf : Outgoing → FileControlText → Type 0
IsControlOf o control = (totals_fault o ≡ None) × (control ≡ file_control o)

-- the fault of its numbers
abbrev pub IsTotalsFaultOf : Outgoing → PrintFault → Type 0
IsTotalsFaultOf o f = totals_fault o ≡ Some f

-- its numbers are small, and its blocks those of its records
pub record IsCounted (control : FileControlText) : Type 0 where
  pub few : control.batches ≤ six_digits
  pub count : control.count ≤ eight_digits
  pub blocked : control.blocks ≡ blocks (2 + 2 * control.batches + control.count)

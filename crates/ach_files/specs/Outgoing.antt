-- A file that is to be printed: its rows, its sums, and its text.
use Rattle.std.specs.Prelude.{◌≡◌, ◌⊎◌, ℕ, ◌+◌, ◌-◌, ◌*◌, ◌%◌, Bool, true, false, not, ◌&&◌, ◌||◌, List, [], ◌∷◌, ◌++◌, map, length, replicate, Option, Some, None, if◌then◌else◌, nat_le, nat_lt, min, Vec}
use Rattle.std.specs.List.{list_all, list_any, sum_by, flat_map}
use Rattle.std.specs.declared.alloc.Global.{Global}
use Rattle.ach_records.specs.declared.print.EntryText.{EntryText}
use Rattle.ach_records.specs.declared.print.BatchControlText.{BatchControlText}
use Rattle.ach_records.specs.declared.print.FileControlText.{FileControlText}
use Rattle.ach_records.specs.declared.print.FileHeaderText.{FileHeaderText}
use Rattle.ach_records.specs.Print.{Value, row_fits, row_text, entry_row, file_header_row, batch_header_row, addenda05_row, change98_row, return99_row, batch_control_row, file_control_row}
use Rattle.ach_files.specs.declared.sums.Sums.{Sums}
use Rattle.ach_files.specs.declared.outgoing.Addenda.{Addenda}
use Rattle.ach_files.specs.declared.outgoing.Addenda.TheVariants as addendas
use Rattle.ach_files.specs.declared.outgoing.OutgoingEntry.{OutgoingEntry}
use Rattle.ach_files.specs.declared.outgoing.OutgoingBatch.{OutgoingBatch}
use Rattle.ach_files.specs.declared.outgoing.Outgoing.{Outgoing}
use Rattle.ach_files.specs.declared.outgoing.PrintFault.{PrintFault}
use Rattle.ach_files.specs.declared.outgoing.PrintFault.TheVariants as faults
use Rattle.ach_files.specs.Structure.{nines}
use Rattle.ach_fields.specs.Cents.{most_cents}
use Rattle.ach_files.specs.Limits.{six_digits}
use Rattle.ach_files.specs.Totals.{low_digits, blocks}

-- ---- rows

abbrev pub has_addenda : Addenda → Bool
has_addenda addendas.Absent = false
has_addenda _ = true

-- the addenda indicator of a record 6 says whether an addenda follows
abbrev pub entry_of : OutgoingEntry → EntryText
entry_of e = record {
  transaction = e.transaction;
  dfi = e.dfi;
  check_digit = e.check_digit;
  account = e.account;
  cents = e.cents;
  identification = e.identification;
  name = e.name;
  has_addenda = has_addenda e.addenda;
  trace = e.trace;
}

abbrev pub addenda_rows : List ℕ → Addenda → List (List Value)
addenda_rows trace addendas.Absent = []
addenda_rows trace (addendas.Payment information) = addenda05_row (record { information = information; trace = trace }) ∷ []
addenda_rows trace (addendas.Change c) = change98_row c ∷ []
addenda_rows trace (addendas.Return r) = return99_row r ∷ []

-- the rows after that of the entry
abbrev pub addenda_rows_of : OutgoingEntry → List (List Value)
addenda_rows_of e = addenda_rows e.trace e.addenda

unfoldable pub entry_rows : OutgoingEntry → List (List Value)
entry_rows e = entry_row (entry_of e) ∷ addenda_rows_of e

-- ---- sums

-- the number of records 6 and 7
abbrev pub entry_count : OutgoingEntry → ℕ
entry_count e = length (entry_rows e)

abbrev pub is_debit_entry : OutgoingEntry → Bool
is_debit_entry e = nat_le 5 (e.transaction % 10)

abbrev pub debit_cents : OutgoingEntry → ℕ
debit_cents e = if is_debit_entry e then e.cents else 0

abbrev pub credit_cents : OutgoingEntry → ℕ
credit_cents e = if is_debit_entry e then 0 else e.cents

unfoldable pub entry_sums : OutgoingEntry → Sums
entry_sums e = record { count = entry_count e; hash = e.dfi; debits = debit_cents e; credits = credit_cents e }

unfoldable pub batch_sums : List OutgoingEntry → Sums
batch_sums entries = record {
  count = sum_by entry_count entries;
  hash = sum_by (λ e. e.dfi) entries;
  debits = sum_by debit_cents entries;
  credits = sum_by credit_cents entries;
}

abbrev pub sums_in : OutgoingBatch → Sums
sums_in b = batch_sums b.entries.now

unfoldable pub file_sums : List OutgoingBatch → Sums
file_sums batches = record {
  count = sum_by (λ b. (sums_in b).count) batches;
  hash = sum_by (λ b. low_digits (sums_in b).hash) batches;
  debits = sum_by (λ b. (sums_in b).debits) batches;
  credits = sum_by (λ b. (sums_in b).credits) batches;
}

abbrev pub sums_of : Outgoing → Sums
sums_of o = file_sums o.batches.now

-- the records through the 9
unfoldable pub main_count : Outgoing → ℕ
main_count o = 2 + 2 * length o.batches.now + (sums_of o).count

-- ---- controls

-- a control with these sums; of the hash the low ten digits
abbrev pub batch_control : OutgoingBatch → BatchControlText
batch_control b = record {
  service_class = b.header.service_class;
  count = (sums_in b).count;
  hash = low_digits (sums_in b).hash;
  debits = (sums_in b).debits;
  credits = (sums_in b).credits;
  company = b.header.company;
  odfi = b.header.odfi;
  number = b.header.number;
}

abbrev pub file_control : Outgoing → FileControlText
file_control o = record {
  batches = length o.batches.now;
  blocks = blocks (main_count o);
  count = (sums_of o).count;
  hash = low_digits (sums_of o).hash;
  debits = (sums_of o).debits;
  credits = (sums_of o).credits;
}

unfoldable pub batch_rows : OutgoingBatch → List (List Value)
batch_rows b = batch_header_row b.header ∷ flat_map entry_rows b.entries.now ++ batch_control_row (batch_control b) ∷ []

-- the rows through the 9
unfoldable pub outgoing_rows : Outgoing → List (List Value)
outgoing_rows o = file_header_row o.header ∷ flat_map batch_rows o.batches.now ++ file_control_row (file_control o) ∷ []

-- ---- the text

-- the fewest records that make the number a multiple of ten
abbrev pub filler_count : ℕ → ℕ
filler_count n = blocks n * 10 - n

-- the texts of the records, in order
abbrev pub outgoing_records : Outgoing → List (List ℕ)
outgoing_records o = map row_text (outgoing_rows o) ++ replicate (filler_count (main_count o)) nines

-- the records with LF after each
abbrev pub page : List (List ℕ) → List ℕ
page texts = flat_map (λ r. r ++ 10 ∷ []) texts

abbrev pub outgoing_text : Outgoing → List ℕ
outgoing_text o = page (outgoing_records o)

-- ---- the faults

unfoldable pub entry_fits : OutgoingEntry → Bool
entry_fits e = list_all row_fits (entry_rows e)

unfoldable pub batch_fits : OutgoingBatch → Bool
batch_fits b = row_fits (batch_header_row b.header) && list_all entry_fits b.entries.now

-- does each field of the file have a text?
unfoldable pub fields_fit : Outgoing → Bool
fields_fit o = row_fits (file_header_row o.header) && list_all batch_fits o.batches.now

-- does a total exceed twelve digits? No batch has more than the file.
abbrev pub is_large : Sums → Bool
is_large s = nat_lt most_cents s.debits || nat_lt most_cents s.credits

abbrev pub is_long_batch : OutgoingBatch → Bool
is_long_batch b = nat_lt six_digits (sums_in b).count

-- the fault of a batch, in whatever file it is
unfoldable pub batch_fault : OutgoingBatch → Option PrintFault
batch_fault b =
    if not (batch_fits b) then Some faults.BadField
    else if is_large (sums_in b) then Some faults.TotalTooLarge
    else if is_long_batch b then Some faults.TooManyRecords
    else None

-- are there over 999,999 records in a batch, or batches or blocks in the file?
unfoldable pub has_many : Outgoing → Bool
has_many o = list_any is_long_batch o.batches.now || (nat_lt six_digits (length o.batches.now) || nat_lt six_digits (blocks (main_count o)))

-- what is wrong with a header
abbrev pub header_fault : FileHeaderText → Option PrintFault
header_fault h = if not (row_fits (file_header_row h)) then Some faults.BadField else None

-- what is wrong with the numbers of the file control
abbrev pub totals_fault : Outgoing → Option PrintFault
totals_fault o =
    if is_large (sums_of o) then Some faults.TotalTooLarge
    else if has_many o then Some faults.TooManyRecords
    else None

unfoldable pub print_fault : Outgoing → Option PrintFault
print_fault o = if not (fields_fit o) then Some faults.BadField else totals_fault o

-- out of memory where nothing is wrong, or this fault
abbrev pub TellsPrint : PrintFault → Option PrintFault → Type 0
TellsPrint f fault = ((f ≡ faults.NoMemory) × (fault ≡ None)) ⊎ (fault ≡ Some f)

-- nothing is wrong with the file, and this is its text
abbrev pub IsPrintOf : Outgoing → Vec ℕ Global → Type 0
IsPrintOf o text = (print_fault o ≡ None) × (text.items ≡ outgoing_text o)

-- the fault of the file, or out of memory where it has none
abbrev pub IsPrintFaultOf : Outgoing → PrintFault → Type 0
IsPrintFaultOf o f = TellsPrint f (print_fault o)

-- ---- what the code keeps of sums: the low ten digits of the hash, and of the others whether they are small
abbrev pub sums_cap : ℕ
sums_cap = most_cents + 1

unfoldable pub capped_sums : Sums → Sums
capped_sums s = record { count = min s.count sums_cap; hash = low_digits s.hash; debits = min s.debits sums_cap; credits = min s.credits sums_cap }

-- ---- printing

-- the record is the text of these fields, if they have one
abbrev pub IsText : Option (List ℕ) → List Value → Type 0
IsText (Some text) values = (row_fits values ≡ true) × (text ≡ row_text values)
IsText None values = row_fits values ≡ false

-- the records are appended to the old bytes
abbrev pub Puts : List ℕ → List ℕ → List (List Value) → Type 0
Puts old new rows = new ≡ old ++ page (map row_text rows)

-- the record of a row is appended to the old bytes, with an LF
abbrev pub PutsRow : List ℕ → List ℕ → List Value → Type 0
PutsRow old new row = new ≡ old ++ (row_text row ++ 10 ∷ [])

-- the new bytes begin with the old ones
abbrev pub BeginsWith : List ℕ → List ℕ → Type 0
BeginsWith new old = (more : List ℕ) × (new ≡ old ++ more)

-- each of the rows has a text
abbrev pub AllFit : List (List Value) → Type 0
AllFit rows = list_all row_fits rows ≡ true

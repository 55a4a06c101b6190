-- The printed text of a record: a row of values, each at the width that the layout gives it.
use Rattle.std.specs.Prelude.{◌≡◌, ℕ, ◌^◌, Bool, true, ◌&&◌, List, [], ◌∷◌, length, codes, Option, Some, None, Result, Ok, Err, if◌then◌else◌, nat_le, nat_lt}
use Rattle.std.specs.List.{list_all, flat_map}
use Prim.Native.String.{String}
use Rattle.ach_fields.specs.Characters.{is_printable}
use Rattle.ach_fields.specs.Digits.{digits}
use Rattle.ach_fields.specs.Text.{with_blanks_after}
use Rattle.ach_fields.specs.Trace.{sequence_in}
use Rattle.ach_fields.specs.declared.fault.FieldFault.{FieldFault}
use Rattle.ach_fields.specs.declared.fault.FieldFault.TheVariants as faults
use Rattle.ach_records.specs.Layout.{Column, Class, Fixed, Blank, layout, is_named}
use Rattle.ach_records.specs.declared.Kind.{Kind}
use Rattle.ach_records.specs.declared.Kind.TheVariants as kinds
use Rattle.ach_records.specs.declared.print.FileHeaderText.{FileHeaderText}
use Rattle.ach_records.specs.declared.print.BatchHeaderText.{BatchHeaderText}
use Rattle.ach_records.specs.declared.print.EntryText.{EntryText}
use Rattle.ach_records.specs.declared.print.Addenda05Text.{Addenda05Text}
use Rattle.ach_records.specs.declared.print.Change98Text.{Change98Text}
use Rattle.ach_records.specs.declared.print.Return99Text.{Return99Text}
use Rattle.ach_records.specs.declared.print.BatchControlText.{BatchControlText}
use Rattle.ach_records.specs.declared.print.FileControlText.{FileControlText}

-- ---- values and their texts

-- the value of a field: a constant, a number in a fixed number of digits, or words with blanks after them
pub data Value : Type 0 where
  Constant : (text : List ℕ) → Value
  Number : (width n : ℕ) → Value
  Words : (width : ℕ) (text : List ℕ) → Value

abbrev pub width_of : Value → ℕ
width_of (Constant text) = length text
width_of (Number width n) = width
width_of (Words width text) = width

-- the bytes of a value that fits
abbrev pub value_bytes : Value → List ℕ
value_bytes (Constant text) = text
value_bytes (Number width n) = digits width n
value_bytes (Words width text) = with_blanks_after width text

-- has the value a text of its width?
abbrev pub value_fits : Value → Bool
value_fits (Constant text) = true
value_fits (Number width n) = nat_lt n (10 ^ width)
value_fits (Words width text) = nat_le (length text) width && list_all is_printable text

-- why it has none
abbrev pub value_fault : Value → Option FieldFault
value_fault (Constant text) = None
value_fault (Number width n) = if nat_lt n (10 ^ width) then None else Some faults.TooLong
value_fault (Words width text) =
    if nat_lt width (length text) then Some faults.TooLong
    else if list_all is_printable text then None
    else Some faults.NotText

-- ---- rows

unfoldable pub row_fits : List Value → Bool
row_fits values = list_all value_fits values

unfoldable pub row_text : List Value → List ℕ
row_text values = flat_map value_bytes values

abbrev pub first_of : Option FieldFault → Option FieldFault → Option FieldFault
first_of (Some f) rest = Some f
first_of None rest = rest

-- the fault of the first value that has no text
unfoldable pub row_fault : List Value → Option FieldFault
row_fault [] = None
row_fault (v ∷ vs) = first_of (value_fault v) (row_fault vs)

-- what a call that prints a row leaves
abbrev pub Prints : Result (Unit {0}) FieldFault → List ℕ → List ℕ → List Value → Type 0
Prints (Ok _) old new values = (row_fits values ≡ true) × (new ≡ row_text values)
Prints (Err f) old new values = (row_fault values ≡ Some f) × (new ≡ old)

-- ---- the rows of the layouts

abbrev pub figure : ℕ → ℕ → Value
figure n width = Number width n

abbrev pub words : List ℕ → ℕ → Value
words text width = Words width text

-- a number in this many digits, or blanks
abbrev pub number_or_blanks : ℕ → Option ℕ → Value
number_or_blanks width (Some n) = Number width n
number_or_blanks width None = Words width []

abbrev pub figure_or_blanks : Option ℕ → ℕ → Value
figure_or_blanks n width = number_or_blanks width n

-- a value with the name of its field
pub record NamedValue : Type 0 where
  pub name : String
  pub value : ℕ → Value

abbrev pub named_value : String → (ℕ → Value) → NamedValue
named_value name value = record { name = name; value = value }

abbrev pub value_in : Column → NamedValue → Value
value_in c g = if is_named c g.name then g.value c.width else Constant []

-- the columns in order: constants and blanks by their class, and in the others the given values, in order and by name
abbrev pub column_values_from : Column → Class → (List NamedValue → List Value) → List NamedValue → List Value
column_values_from c (Fixed text) rest gs = Constant (codes text) ∷ rest gs
column_values_from c Blank rest gs = Words c.width [] ∷ rest gs
column_values_from c _ rest (g ∷ gs) = value_in c g ∷ rest gs
column_values_from c _ rest [] = []

abbrev pub column_values : List Column → List NamedValue → List Value
column_values [] gs = []
column_values (c ∷ cs) gs = column_values_from c c.class (column_values cs) gs

abbrev pub row_of : Kind → List NamedValue → List Value
row_of kind gs = column_values (layout kind) gs

-- a routing number with the blank before it
abbrev pub with_blank : List ℕ → List ℕ
with_blank routing = 32 ∷ routing

abbrev pub file_header_row : FileHeaderText → List Value
file_header_row h = row_of kinds.FileHeader (
    named_value "immediate destination" (words (with_blank h.destination))
    ∷ named_value "immediate origin" (words (with_blank h.origin))
    ∷ named_value "creation date" (words h.date)
    ∷ named_value "creation time" (figure_or_blanks h.time)
    ∷ named_value "modifier" (words h.modifier.now)
    ∷ named_value "destination name" (words h.destination_name.now)
    ∷ named_value "origin name" (words h.origin_name.now)
    ∷ [])

abbrev pub batch_header_row : BatchHeaderText → List Value
batch_header_row h = row_of kinds.BatchHeader (
    named_value "service class" (figure h.service_class)
    ∷ named_value "company name" (words h.company_name.now)
    ∷ named_value "company identification" (words h.company.now)
    ∷ named_value "SEC code" (words h.sec.now)
    ∷ named_value "entry description" (words h.description.now)
    ∷ named_value "effective entry date" (words h.effective)
    ∷ named_value "settlement date" (figure_or_blanks h.settlement)
    ∷ named_value "originating DFI" (figure h.odfi)
    ∷ named_value "batch number" (figure h.number)
    ∷ [])

abbrev pub entry_row : EntryText → List Value
entry_row e = row_of kinds.Entry (
    named_value "transaction code" (figure e.transaction)
    ∷ named_value "receiving DFI" (figure e.dfi)
    ∷ named_value "check digit" (figure e.check_digit)
    ∷ named_value "account" (words e.account.now)
    ∷ named_value "cents" (figure e.cents)
    ∷ named_value "identification" (words e.identification.now)
    ∷ named_value "name" (words e.name.now)
    ∷ named_value "addenda indicator" (figure (if e.has_addenda then 1 else 0))
    ∷ named_value "trace" (words e.trace)
    ∷ [])

abbrev pub addenda05_row : Addenda05Text → List Value
addenda05_row a = row_of kinds.Addenda05 (
    named_value "payment information" (words a.information.now)
    ∷ named_value "sequence" (figure 1)
    ∷ named_value "entry sequence" (figure (sequence_in a.trace))
    ∷ [])

abbrev pub change98_row : Change98Text → List Value
change98_row c = row_of kinds.Change98 (
    named_value "change code" (words c.code.now)
    ∷ named_value "original trace" (words c.original_trace.now)
    ∷ named_value "original receiving DFI" (words c.original_dfi.now)
    ∷ named_value "corrected data" (words c.corrected.now)
    ∷ named_value "trace" (words c.trace)
    ∷ [])

abbrev pub return99_row : Return99Text → List Value
return99_row r = row_of kinds.Return99 (
    named_value "return code" (words r.code.now)
    ∷ named_value "original trace" (words r.original_trace.now)
    ∷ named_value "date of death" (words r.date_of_death.now)
    ∷ named_value "original receiving DFI" (words r.original_dfi.now)
    ∷ named_value "information" (words r.information.now)
    ∷ named_value "trace" (words r.trace)
    ∷ [])

abbrev pub batch_control_row : BatchControlText → List Value
batch_control_row c = row_of kinds.BatchControl (
    named_value "service class" (figure c.service_class)
    ∷ named_value "count" (figure c.count)
    ∷ named_value "entry hash" (figure c.hash)
    ∷ named_value "total debits" (figure c.debits)
    ∷ named_value "total credits" (figure c.credits)
    ∷ named_value "company identification" (words c.company.now)
    ∷ named_value "originating DFI" (figure c.odfi)
    ∷ named_value "batch number" (figure c.number)
    ∷ [])

abbrev pub file_control_row : FileControlText → List Value
file_control_row c = row_of kinds.FileControl (
    named_value "batch count" (figure c.batches)
    ∷ named_value "block count" (figure c.blocks)
    ∷ named_value "count" (figure c.count)
    ∷ named_value "entry hash" (figure c.hash)
    ∷ named_value "total debits" (figure c.debits)
    ∷ named_value "total credits" (figure c.credits)
    ∷ [])

abbrev pub filler_row : List Value
filler_row = row_of kinds.Filler []

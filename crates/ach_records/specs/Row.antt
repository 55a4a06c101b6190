-- The state of the code that prints a row.
use Rattle.std.specs.Prelude.{◌≡◌, ℕ, Bool, true, ◌&&◌, List, length, Some, None, Result, Ok, Err, nat_le}
use Rattle.ach_fields.specs.declared.fault.FieldFault.{FieldFault}
use Rattle.ach_records.specs.declared.row.Field.{Field}
use Rattle.ach_records.specs.declared.row.Field.TheVariants as fields
use Rattle.ach_records.specs.Print.{Value, Constant, Number, Words, number_or_blanks, with_blank, value_fault, value_bytes}

abbrev pub value_of : Field → Value
value_of (fields.Constant text) = Constant text.now
value_of (fields.Number width n) = Number width n
value_of (fields.Optional width n) = number_or_blanks width n
value_of (fields.Words width text) = Words width text.now
value_of (fields.Routing routing) = Words 10 (with_blank routing)
value_of (fields.Date date) = Words 6 date
value_of (fields.Trace trace) = Words 15 trace

abbrev pub field_width : Field → ℕ
field_width (fields.Constant text) = length text.now
field_width (fields.Number width n) = width
field_width (fields.Optional width n) = width
field_width (fields.Words width text) = width
field_width (fields.Routing routing) = 10
field_width (fields.Date date) = 6
field_width (fields.Trace trace) = 15

-- has the number 1 to 18 digits?
abbrev pub is_narrow : Field → Bool
is_narrow (fields.Number width n) = nat_le 1 width && nat_le width 18
is_narrow (fields.Optional width n) = nat_le 1 width && nat_le width 18
is_narrow _ = true

-- the value's bytes are written, or it has none
abbrev pub PutsValue : Result (Unit {0}) FieldFault → List ℕ → Value → Type 0
PutsValue (Ok _) new v = (value_fault v ≡ None) × (new ≡ value_bytes v)
PutsValue (Err f) new v = value_fault v ≡ Some f

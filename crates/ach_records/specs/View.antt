-- The fault of a text as a record: a byte that is not printable first, then the kind, then the digits.
use Rattle.std.specs.Prelude.{ℕ, ◌+◌, not, List, [], ◌∷◌, Option, Some, None, option_map}
use Rattle.std.specs.Option.{option_or}
use Rattle.std.specs.List.{position}
use Rattle.ach_fields.specs.Characters.{is_digit, is_printable}
use Rattle.ach_records.specs.Layout.{part, digit_fields}
use Rattle.ach_records.specs.Record.{kind_of}
use Rattle.ach_records.specs.declared.Kind.{Kind}
use Rattle.ach_records.specs.declared.Kind.TheVariants as kinds
use Rattle.ach_records.specs.declared.fault.RecordFault.{RecordFault}
use Rattle.ach_records.specs.declared.fault.RecordFault.TheVariants as faults

-- the first position, from 1, of a character other than a digit in a digit field
abbrev pub bad_digit : ℕ → ℕ → List ℕ → Option ℕ
bad_digit from width text = option_map (λ i. from + i + 1) (position (λ b. not (is_digit b)) (part from width text))

-- the first such position in these fields
unfoldable pub digit_fault : List (ℕ × ℕ) → List ℕ → Option ℕ
digit_fault [] text = None
digit_fault (f ∷ fs) text = option_or (bad_digit f.0 f.1 text) (digit_fault fs text)

abbrev pub kind_fault : Kind → List ℕ → Option RecordFault
kind_fault kinds.Other text = Some faults.BadType
kind_fault kinds.OtherAddenda text = Some faults.BadAddendaType
kind_fault kind text = option_map faults.BadNumber (digit_fault (digit_fields kind) text)

-- the first position, counted from 1, that holds no blank to `~`
abbrev pub bad_byte : List ℕ → Option ℕ
bad_byte text = option_map (λ i. i + 1) (position (λ b. not (is_printable b)) text)

unfoldable pub view_fault : List ℕ → Option RecordFault
view_fault text = option_or (option_map faults.BadByte (bad_byte text)) (kind_fault (kind_of text) text)

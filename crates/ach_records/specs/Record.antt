-- The texts that are records, and their kinds.
use Rattle.std.specs.Prelude.{◌≡◌, ℕ, Bool, true, false, ◌&&◌, List, length, slice_index, if◌then◌else◌, ◌==◌}
use Rattle.std.specs.List.{list_all}
use Rattle.ach_fields.specs.Characters.{is_digit, is_printable}
use Rattle.ach_fields.specs.Digits.{number}
use Rattle.ach_records.specs.declared.Kind.{Kind}
use Rattle.ach_records.specs.declared.Kind.TheVariants as kinds
use Rattle.ach_records.specs.Layout.{part, field, digit_fields}

-- ---- the kind: 94 nines are the filler; any other text goes by its first character, and a 7 by the two after it

unfoldable pub addenda_kind : ℕ → ℕ → Kind
addenda_kind b c =
    if b == 48 && c == 53 then kinds.Addenda05
    else if b == 57 && c == 56 then kinds.Change98
    else if b == 57 && c == 57 then kinds.Return99
    else kinds.OtherAddenda

unfoldable pub kind_by_first : ℕ → List ℕ → Kind
kind_by_first first text =
    if first == 49 then kinds.FileHeader
    else if first == 53 then kinds.BatchHeader
    else if first == 54 then kinds.Entry
    else if first == 55 then addenda_kind (slice_index text 1) (slice_index text 2)
    else if first == 56 then kinds.BatchControl
    else if first == 57 then kinds.FileControl
    else kinds.Other

unfoldable pub kind_of : List ℕ → Kind
kind_of text = if list_all (λ b. b == 57) text then kinds.Filler else kind_by_first (slice_index text 0) text

-- is it one of the nine kinds of records?
abbrev pub is_record_kind : Kind → Bool
is_record_kind kinds.OtherAddenda = false
is_record_kind kinds.Other = false
is_record_kind _ = true

-- ---- record texts

-- each digit field of the kind consists of digits
unfoldable pub has_digits : Kind → List ℕ → Bool
has_digits kind text = list_all (λ f. list_all is_digit (part f.0 f.1 text)) (digit_fields kind)

-- a record text of this kind
pub record IsRecord (kind : Kind) (text : List ℕ) : Type 0 where
  pub known : is_record_kind kind ≡ true
  pub len : length text ≡ 94
  pub printable : list_all is_printable text ≡ true
  pub kind_is : kind_of text ≡ kind
  pub digits : has_digits kind text ≡ true

-- ---- the fields that a reader of files takes

-- the transaction code as a number
unfoldable pub entry_transaction_code : List ℕ → ℕ
entry_transaction_code text = number (field kinds.Entry "transaction code" text)

-- the second digit of the transaction code, as a character
abbrev pub entry_direction : List ℕ → ℕ
entry_direction text = slice_index text 2

unfoldable pub entry_dfi : List ℕ → ℕ
entry_dfi text = number (field kinds.Entry "receiving DFI" text)

unfoldable pub entry_cents : List ℕ → ℕ
entry_cents text = number (field kinds.Entry "cents" text)

unfoldable pub batch_sec : List ℕ → List ℕ
batch_sec text = field kinds.BatchHeader "SEC code" text

-- origin, creation date, creation time and modifier of a file header, which lie side by side
unfoldable pub header_key : List ℕ → List ℕ
header_key text = part 13 21 text

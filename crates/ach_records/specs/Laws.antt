-- Fields, printing and viewing belong together.
use Rattle.std.specs.Prelude.{◌≡◌, ℕ, true, List, [], ◌∷◌, map, length}
use Rattle.std.specs.List.{flat_map}
use Rattle.ach_fields.specs.Digits.{number, AreDigits}
use Rattle.ach_fields.specs.Text.{with_blanks_after}
use Rattle.ach_records.specs.Layout.{layout, fields_of}
use Rattle.ach_records.specs.Record.{IsRecord}
use Rattle.ach_records.specs.Print.{Value, Constant, Number, Words, row_fits, row_text, file_header_row, batch_header_row, entry_row, addenda05_row, change98_row, return99_row, batch_control_row, file_control_row, filler_row}
use Rattle.ach_records.specs.declared.Kind.{Kind}
use Rattle.ach_records.specs.declared.Kind.TheVariants as kinds
use Rattle.ach_records.specs.declared.print.FileHeaderText.{FileHeaderText}
use Rattle.ach_records.specs.declared.print.BatchHeaderText.{BatchHeaderText}
use Rattle.ach_records.specs.declared.print.EntryText.{EntryText}
use Rattle.ach_records.specs.declared.print.Addenda05Text.{Addenda05Text}
use Rattle.ach_records.specs.declared.print.Change98Text.{Change98Text}
use Rattle.ach_records.specs.declared.print.Return99Text.{Return99Text}
use Rattle.ach_records.specs.declared.print.BatchControlText.{BatchControlText}
use Rattle.ach_records.specs.declared.print.FileControlText.{FileControlText}

-- the widths of the fields of a kind
abbrev pub widths : Kind → List ℕ
widths kind = map (λ c. c.width) (layout kind)

-- the fields one after the other
abbrev pub text_of_fields : List (List ℕ) → List ℕ
text_of_fields fields = flat_map (λ f. f) fields

-- what digits spell
pub record Spells (width n : ℕ) (bytes : List ℕ) : Type 0 where
  pub long : length bytes ≡ width
  pub digits : AreDigits bytes
  pub value : number bytes ≡ n

-- the bytes of a field say the value: the constant, digits that spell the number, or the words and blanks after them
abbrev pub Says : Value → List ℕ → Type 0
Says (Constant text) bytes = bytes ≡ text
Says (Number width n) bytes = Spells width n bytes
Says (Words width text) bytes = (length bytes ≡ width) × (bytes ≡ with_blanks_after width text)

-- the fields say the values, each its own
abbrev pub SayAll : List Value → List (List ℕ) → Type 0
SayAll [] [] = Unit {0}
SayAll (v ∷ vs) (f ∷ fs) = Says v f × SayAll vs fs
SayAll [] (f ∷ fs) = ⊥
SayAll (v ∷ vs) [] = ⊥

-- a row that is printed gives a record of the kind, whose fields say the values
pub record IsViewed (kind : Kind) (values : List Value) : Type 0 where
  pub is_record : IsRecord kind (row_text values)
  pub fields : SayAll values (fields_of kind (row_text values))

abbrev pub IsViewedIfPrinted : Kind → List Value → Type 0
IsViewedIfPrinted kind values = row_fits values ≡ true → IsViewed kind values

-- what each call prints is viewed as its kind, with its fields
pub record PrintedIsViewed : Type 0 where
  pub file_header : (h : FileHeaderText) → IsViewedIfPrinted kinds.FileHeader (file_header_row h)
  pub batch_header : (h : BatchHeaderText) → IsViewedIfPrinted kinds.BatchHeader (batch_header_row h)
  pub entry : (e : EntryText) → IsViewedIfPrinted kinds.Entry (entry_row e)
  pub addenda05 : (a : Addenda05Text) → IsViewedIfPrinted kinds.Addenda05 (addenda05_row a)
  pub change98 : (c : Change98Text) → IsViewedIfPrinted kinds.Change98 (change98_row c)
  pub return99 : (r : Return99Text) → IsViewedIfPrinted kinds.Return99 (return99_row r)
  pub batch_control : (c : BatchControlText) → IsViewedIfPrinted kinds.BatchControl (batch_control_row c)
  pub file_control : (c : FileControlText) → IsViewedIfPrinted kinds.FileControl (file_control_row c)
  pub filler : IsViewedIfPrinted kinds.Filler filler_row

-- values that the fields of a record say are printed as the same bytes: among them blanks where the row has blanks
abbrev pub ViewedIsPrinted : Type 0
ViewedIsPrinted = (kind : Kind) (text : List ℕ) (values : List Value) → IsRecord kind text → SayAll values (fields_of kind text) → (row_fits values ≡ true) × (row_text values ≡ text)

-- a record is its fields at their widths, one after the other, and there is one way to cut it
pub record RecordsAreFields : Type 0 where
  pub whole : (kind : Kind) (text : List ℕ) → IsRecord kind text → text_of_fields (fields_of kind text) ≡ text
  pub lengths : (kind : Kind) (text : List ℕ) → IsRecord kind text → map length (fields_of kind text) ≡ widths kind
  pub cut : (kind : Kind) (fields : List (List ℕ)) → map length fields ≡ widths kind → fields_of kind (text_of_fields fields) ≡ fields

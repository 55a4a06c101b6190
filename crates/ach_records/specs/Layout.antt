-- The layouts of the records: for each kind its fields in order, each with its name, its width and its class.
-- Positions are counted from 0 here: the field of positions 30 to 39 begins at offset 29.
use Rattle.std.specs.Prelude.{ℕ, ◌+◌, Bool, List, [], ◌∷◌, take, drop, codes, bytes_eq, if◌then◌else◌}
use Prim.Native.String.{String}
use Rattle.ach_records.specs.declared.Kind.{Kind}
use Rattle.ach_records.specs.declared.Kind.TheVariants as kinds

-- what a field holds
pub data Class : Type 0 where
  Fixed : (text : String) → Class  -- printed as this text, read as any text
  Digits : Class  -- digits in every record
  Text : Class  -- read as any text
  Blank : Class  -- printed blank, read as any text

pub record Column : Type 0 where
  pub name : String
  pub width : ℕ
  pub class : Class

abbrev pub column : String → ℕ → Class → Column
column name width class = record { name = name; width = width; class = class }

abbrev pub layout : Kind → List Column
layout kinds.FileHeader =
    column "record type" 1 (Fixed "1")
    ∷ column "priority code" 2 (Fixed "01")
    ∷ column "immediate destination" 10 Text
    ∷ column "immediate origin" 10 Text
    ∷ column "creation date" 6 Text
    ∷ column "creation time" 4 Text
    ∷ column "modifier" 1 Text
    ∷ column "record size" 3 (Fixed "094")
    ∷ column "blocking factor" 2 (Fixed "10")
    ∷ column "format code" 1 (Fixed "1")
    ∷ column "destination name" 23 Text
    ∷ column "origin name" 23 Text
    ∷ column "reference code" 8 Blank
    ∷ []
layout kinds.BatchHeader =
    column "record type" 1 (Fixed "5")
    ∷ column "service class" 3 Text
    ∷ column "company name" 16 Text
    ∷ column "discretionary data" 20 Blank
    ∷ column "company identification" 10 Text
    ∷ column "SEC code" 3 Text
    ∷ column "entry description" 10 Text
    ∷ column "descriptive date" 6 Blank
    ∷ column "effective entry date" 6 Text
    ∷ column "settlement date" 3 Text
    ∷ column "originator status" 1 (Fixed "1")
    ∷ column "originating DFI" 8 Text
    ∷ column "batch number" 7 Text
    ∷ []
layout kinds.Entry =
    column "record type" 1 (Fixed "6")
    ∷ column "transaction code" 2 Digits
    ∷ column "receiving DFI" 8 Digits
    ∷ column "check digit" 1 Text
    ∷ column "account" 17 Text
    ∷ column "cents" 10 Digits
    ∷ column "identification" 15 Text
    ∷ column "name" 22 Text
    ∷ column "discretionary data" 2 Blank
    ∷ column "addenda indicator" 1 Text
    ∷ column "trace" 15 Text
    ∷ []
layout kinds.Addenda05 =
    column "record type" 3 (Fixed "705")
    ∷ column "payment information" 80 Text
    ∷ column "sequence" 4 Digits
    ∷ column "entry sequence" 7 Digits
    ∷ []
layout kinds.Change98 =
    column "record type" 3 (Fixed "798")
    ∷ column "change code" 3 Text
    ∷ column "original trace" 15 Text
    ∷ column "reserved" 6 Blank
    ∷ column "original receiving DFI" 8 Text
    ∷ column "corrected data" 29 Text
    ∷ column "second reserved" 15 Blank
    ∷ column "trace" 15 Text
    ∷ []
layout kinds.Return99 =
    column "record type" 3 (Fixed "799")
    ∷ column "return code" 3 Text
    ∷ column "original trace" 15 Text
    ∷ column "date of death" 6 Text
    ∷ column "original receiving DFI" 8 Text
    ∷ column "information" 44 Text
    ∷ column "trace" 15 Text
    ∷ []
layout kinds.BatchControl =
    column "record type" 1 (Fixed "8")
    ∷ column "service class" 3 Text
    ∷ column "count" 6 Digits
    ∷ column "entry hash" 10 Digits
    ∷ column "total debits" 12 Digits
    ∷ column "total credits" 12 Digits
    ∷ column "company identification" 10 Text
    ∷ column "authentication code" 19 Blank
    ∷ column "reserved" 6 Blank
    ∷ column "originating DFI" 8 Text
    ∷ column "batch number" 7 Text
    ∷ []
layout kinds.FileControl =
    column "record type" 1 (Fixed "9")
    ∷ column "batch count" 6 Digits
    ∷ column "block count" 6 Digits
    ∷ column "count" 8 Digits
    ∷ column "entry hash" 10 Digits
    ∷ column "total debits" 12 Digits
    ∷ column "total credits" 12 Digits
    ∷ column "reserved" 39 Blank
    ∷ []
layout kinds.Filler =
    column "nines" 94 (Fixed "9999999999999999999999999999999999999999999999999999999999999999999999999999999999999999999999")
    ∷ []
layout _ = []

-- ---- reading by position

-- this many bytes from an offset
unfoldable pub part : ℕ → ℕ → List ℕ → List ℕ
part from width text = take width (drop from text)

abbrev pub is_named : Column → String → Bool
is_named c name = bytes_eq (codes c.name) (codes name)

-- the field of this name, of columns that begin at an offset
abbrev pub field_from : ℕ → List Column → String → List ℕ → List ℕ
field_from from [] name text = []
field_from from (c ∷ cs) name text = if is_named c name then part from c.width text else field_from (from + c.width) cs name text

-- the field of this name
abbrev pub field : Kind → String → List ℕ → List ℕ
field kind name text = field_from 0 (layout kind) name text

-- all the fields by position
abbrev pub fields_from : ℕ → List Column → List ℕ → List (List ℕ)
fields_from from [] text = []
fields_from from (c ∷ cs) text = part from c.width text ∷ fields_from (from + c.width) cs text

abbrev pub fields_of : Kind → List ℕ → List (List ℕ)
fields_of kind text = fields_from 0 (layout kind) text

-- an offset and a width in front of the others, if the field is one of digits
abbrev pub with_digits : Class → ℕ → ℕ → List (ℕ × ℕ) → List (ℕ × ℕ)
with_digits Digits from width rest = (from, width) ∷ rest
with_digits _ from width rest = rest

-- the digit fields alone: each an offset and a width
abbrev pub digit_fields_from : ℕ → List Column → List (ℕ × ℕ)
digit_fields_from from [] = []
digit_fields_from from (c ∷ cs) = with_digits c.class from c.width (digit_fields_from (from + c.width) cs)

abbrev pub digit_fields : Kind → List (ℕ × ℕ)
digit_fields kind = digit_fields_from 0 (layout kind)

-- The entry in a row, or the row's fault.
use Rattle.std.specs.Prelude.{◌≡◌, ◌&&◌, ℕ, Bool, true, false, List, [], ◌∷◌, Option, Some, None, option_map, option_and_then, if◌then◌else◌, codes, Result, Ok, Err, MatchResult}
use Rattle.std.specs.List.{list_all}
use Rattle.std.specs.Result.{result_ok}
use Rattle.std.specs.Str.{bytes_eq, is_utf8}
use Rattle.ach_fields.specs.Number.{number_in}
use Rattle.csv.specs.Records.{field_at}
use Rattle.cli_submit.specs.declared.fault.RowFault.{RowFault}
use Rattle.cli_submit.specs.declared.fault.RowFault.TheVariants.{BadRow, BadCents, BadPrenote}
use Rattle.cli_submit.specs.declared.row.Columns.{Columns}
use Rattle.cli_submit.specs.declared.row.RowEntry.{RowEntry}

-- the fields of a row by their columns
pub record ColumnTexts : Type 0 where
  pub routing : List ℕ
  pub account : List ℕ
  pub kind : List ℕ
  pub prenote : List ℕ
  pub cents : List ℕ
  pub id : List ℕ
  pub name : List ℕ
  pub info : List ℕ

-- an entry as a row has it
pub record EntryTexts : Type 0 where
  pub routing : List ℕ
  pub account : List ℕ
  pub kind : List ℕ
  pub is_prenote : Bool
  pub cents : ℕ
  pub id : List ℕ
  pub name : List ℕ
  pub info : Option (List ℕ)

-- a text, if it is UTF-8
abbrev pub text_of : List ℕ → Option (List ℕ)
text_of field = if is_utf8 field then Some field else None

-- the field at a place, if there is one and it is UTF-8
abbrev pub text_at : (place : ℕ) → (fields : List (List ℕ)) → Option (List ℕ)
text_at place fields = option_and_then text_of (field_at fields place)

-- the columns of a row that has eight fields, all of them UTF-8
abbrev pub columns_in : (fields : List (List ℕ)) → Option ColumnTexts
columns_in (routing ∷ account ∷ kind ∷ prenote ∷ cents ∷ id ∷ name ∷ info ∷ []) =
    if list_all is_utf8 (routing ∷ account ∷ kind ∷ prenote ∷ cents ∷ id ∷ name ∷ info ∷ [])
    then Some (record { routing = routing; account = account; kind = kind; prenote = prenote; cents = cents; id = id; name = name; info = info })
    else None
columns_in fields = None

-- each column has its own name in the header
abbrev pub names_columns : ColumnTexts → Bool
names_columns c =
    bytes_eq c.routing (codes "routing") && (bytes_eq c.account (codes "account") && (bytes_eq c.kind (codes "kind")
    && (bytes_eq c.prenote (codes "prenote") && (bytes_eq c.cents (codes "cents") && (bytes_eq c.id (codes "id")
    && (bytes_eq c.name (codes "name") && bytes_eq c.info (codes "info")))))))

-- a row is the header
abbrev pub is_header_of : Option ColumnTexts → Bool
is_header_of None = false
is_header_of (Some c) = names_columns c

abbrev pub is_header : (fields : List (List ℕ)) → Bool
is_header fields = is_header_of (columns_in fields)

-- whether an entry is a prenote
abbrev pub prenote_in : List ℕ → Option Bool
prenote_in s = if bytes_eq s (codes "yes") then Some true else (if bytes_eq s [] then Some false else None)

-- a text that is left out where it is empty
abbrev pub unless_empty : List ℕ → Option (List ℕ)
unless_empty [] = None
unless_empty (c ∷ cs) = Some (c ∷ cs)

-- the entry with these cents
abbrev pub entry_with : ColumnTexts → (cents : ℕ) → (is_prenote : Bool) → EntryTexts
entry_with c cents is_prenote = record {
  routing = c.routing;
  account = c.account;
  kind = c.kind;
  is_prenote = is_prenote;
  cents = cents;
  id = c.id;
  name = c.name;
  info = unless_empty c.info;
}

-- the entry with these cents and this prenote, or what it lacks first
abbrev pub entry_by : ColumnTexts → (cents : Option ℕ) → (is_prenote : Option Bool) → Result EntryTexts RowFault
entry_by c None is_prenote = Err BadCents
entry_by c (Some cents) None = Err BadPrenote
entry_by c (Some cents) (Some is_prenote) = Ok (entry_with c cents is_prenote)

-- the entry in these columns, or its first fault
abbrev pub entry_in : ColumnTexts → Result EntryTexts RowFault
entry_in c = entry_by c (result_ok (number_in c.cents)) (prenote_in c.prenote)

-- the entry in the columns of a row, if it has those
abbrev pub entry_of_columns : Option ColumnTexts → Result EntryTexts RowFault
entry_of_columns None = Err BadRow
entry_of_columns (Some c) = entry_in c

-- the entry that a row is, or its first fault
abbrev pub row_entry : (fields : List (List ℕ)) → Result EntryTexts RowFault
row_entry fields = entry_of_columns (columns_in fields)

-- the columns and the entry that the program has
abbrev pub columns_of : Columns → ColumnTexts
columns_of c = record { routing = c.routing.now; account = c.account.now; kind = c.kind.now; prenote = c.prenote.now; cents = c.cents.now; id = c.id.now; name = c.name.now; info = c.info.now }

abbrev pub entry_of : RowEntry → EntryTexts
entry_of e = record {
  routing = e.routing.now;
  account = e.account.now;
  kind = e.kind.now;
  is_prenote = e.is_prenote;
  cents = e.cents;
  id = e.id.now;
  name = e.name.now;
  info = option_map (λ t. t.now) e.info;
}

-- the entry that the program has is the one wanted, or the fault is
abbrev pub GivesEntry : (wanted : Result EntryTexts RowFault) → Result RowEntry RowFault → Type 0
GivesEntry wanted given = MatchResult given (λ entry. wanted ≡ Ok (entry_of entry)) (λ fault. wanted ≡ Err fault)

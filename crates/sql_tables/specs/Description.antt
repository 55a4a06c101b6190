-- A table is described once: its columns with what each has of a record, its key and its indexes. Its row, the order of
-- its key, its texts and its `Table` follow.
use Rattle.std.specs.Prelude.{ℕ, ◌+◌, ℤ, pos, Bool, true, false, List, [], ◌∷◌, ◌++◌, map, take, length, Option, codes, bytes_eq, if◌then◌else◌}
use Rattle.std.specs.List.{range_with_len}
use Prim.Native.String.{String}
use Rattle.std.specs.Ordering.{nat_cmp, on, then_cmp}
use Rattle.std.specs.Cmp.Lexicographic.{slice_cmp}
use Rattle.std.specs.declared.cmp.Ordering.{Ordering}
use Rattle.std.specs.declared.cmp.Ordering.TheVariants.{Equal}
use Rattle.sqlite.specs.Kind.{Kind}
use Rattle.sqlite.specs.Kind.TheVariants as kinds
use Rattle.sqlite.specs.Table.{Table}
use Rattle.sqlite.specs.Values.{or_null}
use Rattle.sqlite_schema.specs.declared.schema.Column.{Column as PlainColumn}
use Rattle.sqlite_schema.specs.declared.schema.Index.{Index}
use Rattle.sqlite_value.specs.declared.value.Value.{Value}
use Rattle.sqlite_value.specs.declared.value.Value.TheVariants.{Int, Text, Blob}
use Rattle.sqlite_value.specs.Keys.{plain}
use Rattle.sqlite_value.specs.Order.{Row}
use Rattle.sql_statements.specs.PlainTable.{plain_column, table_at, plain_index}
use Rattle.sql_statements.specs.StoredRows.{Form, whole, keyed, is_keyed}
use Rattle.sql_tables.specs.Columns.{number, flag, letter, line_reference}

-- what a column has of a record: its kind, and whether it may be NULL, follow
pub data Field (X : Type 0) : Type 0 where
  texts : (X → List ℕ) → Field X
  letters : (X → ℕ) → Field X
  line_references : (X → Option (List ℕ)) → Field X
  numbers : (X → ℕ) → Field X
  integers : (X → ℤ) → Field X
  flags : (X → Bool) → Field X
  blobs : (X → List ℕ) → Field X
  texts_if_any : (X → Option (List ℕ)) → Field X
  letters_if_any : (X → Option ℕ) → Field X
  numbers_if_any : (X → Option ℕ) → Field X
  -- the number under which a row is put: it is the rowid, and the first column
  rowids : (X → ℕ) → Field X

pub record Column (X : Type 0) : Type 0 where
  pub name : String
  pub field : Field X

-- a key and an index name columns; `tree` is where the rows are, by the order in which tables and indexes are made
pub record Description (X : Type 0) : Type 0 where
  pub name : String
  pub tree : ℕ
  pub columns : List (Column X)
  pub key : List String
  pub uniques : List (List String)

abbrev pub column : {X : Type 0} → String → Field X → Column X
column name field = record { name = name; field = field }

-- ---- a column

abbrev pub kind_of : {X : Type 0} → Field X → Kind
kind_of (texts f) = kinds.Text
kind_of (letters f) = kinds.Text
kind_of (line_references f) = kinds.Text
kind_of (texts_if_any f) = kinds.Text
kind_of (letters_if_any f) = kinds.Text
kind_of (blobs f) = kinds.Blob
kind_of _ = kinds.Integer

abbrev pub is_not_null : {X : Type 0} → Field X → Bool
is_not_null (texts_if_any f) = false
is_not_null (letters_if_any f) = false
is_not_null (numbers_if_any f) = false
is_not_null (rowids f) = false
is_not_null _ = true

abbrev pub is_rowid : {X : Type 0} → Field X → Bool
is_rowid (rowids f) = true
is_rowid _ = false

abbrev pub stored : {X : Type 0} → Field X → X → Value
stored (texts f) x = Text (f x)
stored (letters f) x = letter (f x)
stored (line_references f) x = line_reference (f x)
stored (numbers f) x = number (f x)
stored (integers f) x = Int (f x)
stored (flags f) x = flag (f x)
stored (blobs f) x = Blob (f x)
stored (texts_if_any f) x = or_null Text (f x)
stored (letters_if_any f) x = or_null letter (f x)
stored (numbers_if_any f) x = or_null number (f x)
stored (rowids f) x = number (f x)

-- the number that is the rowid
abbrev pub rowid_in : {X : Type 0} → Field X → X → ℤ
rowid_in (rowids f) x = pos (f x)
rowid_in _ x = pos 0

abbrev pub stored_columns : {X : Type 0} → List (Column X) → X → Row
stored_columns cs x = map (λ c. stored c.field x) cs

-- how a record is stored: under the number in its first column, where that is the rowid, or with all its columns
abbrev pub form_of : {X : Type 0} → List (Column X) → Form X
form_of [] = whole (stored_columns [])
form_of (c ∷ cs) = if is_rowid c.field then keyed (rowid_in c.field) (stored_columns cs) else whole (stored_columns (c ∷ cs))

-- a column of a key has texts, letters or numbers
abbrev pub field_cmp : {X : Type 0} → Field X → X → X → Ordering
field_cmp (texts f) = on f (slice_cmp nat_cmp)
field_cmp (letters f) = on f nat_cmp
field_cmp (numbers f) = on f nat_cmp
field_cmp (rowids f) = on f nat_cmp
field_cmp _ = λ x y. Equal

-- ---- columns by name

abbrev pub is_named : String → String → Bool
is_named s t = bytes_eq (codes s) (codes t)

-- the place of a column, where the first has the one that is given, and the rowid none
abbrev pub place_from : {X : Type 0} → ℕ → List (Column X) → String → ℕ
place_from at [] name = 0
place_from at (c ∷ cs) name = if is_named c.name name then (if is_rowid c.field then 0 else at) else place_from (at + 1) cs name

abbrev pub place : {X : Type 0} → List (Column X) → String → ℕ
place = place_from 1

abbrev pub fields_named : {X : Type 0} → List (Column X) → String → List (Field X)
fields_named [] name = []
fields_named (c ∷ cs) name = if is_named c.name name then c.field ∷ [] else fields_named cs name

abbrev pub fields_of : {X : Type 0} → List (Column X) → List String → List (Field X)
fields_of cs [] = []
fields_of cs (n ∷ names) = fields_named cs n ++ fields_of cs names

abbrev pub cmp_then : {X : Type 0} → (X → X → Ordering) → List (Field X) → X → X → Ordering
cmp_then cmp [] = cmp
cmp_then cmp (f ∷ fs) = cmp_then (then_cmp cmp (field_cmp f)) fs

abbrev pub cmp_by : {X : Type 0} → List (Field X) → X → X → Ordering
cmp_by [] = λ x y. Equal
cmp_by (f ∷ fs) = cmp_then (field_cmp f) fs

-- ---- texts

abbrev pub commas : List (List ℕ) → List ℕ
commas [] = []
commas (s ∷ []) = s
commas (s ∷ t ∷ ss) = s ++ codes ", " ++ commas (t ∷ ss)

abbrev pub names_text : List String → List ℕ
names_text names = commas (map codes names)

abbrev pub kind_text : Kind → List ℕ
kind_text kinds.Text = codes " TEXT"
kind_text kinds.Blob = codes " BLOB"
kind_text _ = codes " INT"

abbrev pub type_text : {X : Type 0} → Field X → List ℕ
type_text (rowids f) = codes " INTEGER PRIMARY KEY"
type_text field = kind_text (kind_of field) ++ (if is_not_null field then codes " NOT NULL" else [])

abbrev pub columns_text : {X : Type 0} → List (Column X) → List (List ℕ)
columns_text cs = map (λ c. codes c.name ++ type_text c.field) cs

abbrev pub key_text : (words : List ℕ) → List String → List ℕ
key_text words names = words ++ codes " (" ++ names_text names ++ codes ")"

abbrev pub parameter_names : List (List ℕ)
parameter_names = map codes ("?1" ∷ "?2" ∷ "?3" ∷ "?4" ∷ "?5" ∷ "?6" ∷ "?7" ∷ "?8" ∷ "?9" ∷ "?10" ∷ "?11" ∷ "?12" ∷ "?13" ∷ "?14" ∷ [])

module _ {X : Type 0} (d : Description X) where
  -- the columns of a record
  abbrev pub as_row : X → Row
  as_row = stored_columns d.columns

  abbrev pub form : Form X
  form = form_of d.columns

  -- the order of the key
  abbrev pub key_cmp : X → X → Ordering
  key_cmp = cmp_by (fields_of d.columns d.key)

  -- the places of columns, from 1
  abbrev pub places : List String → List ℕ
  places names = map (place d.columns) names

  abbrev pub plain_columns : List PlainColumn
  plain_columns = map (λ c. plain_column (codes c.name) (kind_of c.field) (is_not_null c.field)) d.columns

  -- what is written of a key, where a tree of its own keeps it
  abbrev pub of_own_tree : {A : Type 0} → A → List A
  of_own_tree key = if is_keyed form then [] else key ∷ []

  abbrev pub keys : List (List ℕ)
  keys = of_own_tree (places d.key) ++ map places d.uniques

  abbrev pub table : Table
  table = table_at (is_keyed form) d.tree (codes d.name) plain_columns (places d.key) keys (map (λ _. plain) keys)

  abbrev pub create_text : List ℕ
  create_text =
      codes "CREATE TABLE " ++ codes d.name ++ codes " ("
      ++ commas (columns_text d.columns ++ of_own_tree (key_text (codes "PRIMARY KEY") d.key) ++ map (key_text (codes "UNIQUE")) d.uniques)
      ++ codes ") STRICT"

  -- an index of these columns
  abbrev pub index_on : (name : String) → List String → Index
  index_on name columns = plain_index (codes name) d.tree (places columns)

  abbrev pub index_text : (name : String) → List String → List ℕ
  index_text name columns = codes "CREATE INDEX " ++ codes name ++ codes " ON " ++ codes d.name ++ codes " (" ++ names_text columns ++ codes ")"

  -- one row is put, or sixteen
  abbrev pub insert_text : List ℕ
  insert_text = codes "INSERT INTO " ++ codes d.name ++ codes " VALUES (" ++ commas (take (length d.columns) parameter_names) ++ codes ")"

  abbrev pub insert_sixteen_text : List ℕ
  insert_sixteen_text = codes "INSERT INTO " ++ codes d.name ++ codes " VALUES " ++ commas (map (λ _. codes "(" ++ commas (map (λ _. codes "?") d.columns) ++ codes ")") (range_with_len 1 16))

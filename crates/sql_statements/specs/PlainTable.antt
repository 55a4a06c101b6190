-- A plain table: its rows have a rowid and then the columns. No statement names the rowid, or it is the first column.
use Rattle.std.specs.Prelude.{true, false, [], Some, None, List, ℕ, Bool, if◌then◌else◌}
use Rattle.sqlite.specs.Collation.TheVariants.{Binary}
use Rattle.sqlite.specs.declared.types.Value.TheVariants.{Null}
use Rattle.sqlite.specs.Table.{Table}
use Rattle.sqlite_schema.specs.declared.schema.Column.{Column}
use Rattle.sqlite.specs.Kind.{Kind}
use Rattle.sqlite_schema.specs.declared.schema.Index.{Index}
use Rattle.sqlite_value.specs.declared.keys.Order.{Order}
use Rattle.sqlite_value.specs.Keys.{plain}

-- a column of a STRICT table, with no default
abbrev pub plain_column : (name : List ℕ) → Kind → (not_null : Bool) → Column
plain_column name kind not_null = record { name = name; kind = kind; is_strict = true; not_null = not_null; default = Null; collation = Binary }

-- The table of this tree. Its primary key and its UNIQUE keys name columns by their places from 1, and a column that is
-- the rowid by 0; a key has an order.
abbrev pub table_at : (keyed : Bool) → (tree : ℕ) → (name : List ℕ) → List Column → (primary : List ℕ) → (uniques : List (List ℕ)) → List Order → Table
table_at keyed tree name columns primary uniques orders = record {
  name = name;
  tree = tree;
  columns = columns;
  key = if keyed then Some 0 else None;
  primary = primary;
  uniques = uniques;
  orders = orders;
  checks = [];
  references = [];
  computed = [];
  stamps = record { places = []; terms = []; formats = [] };
  is_counted = false;
}

-- an index of the table of this tree, of columns in rising order; it is no key
abbrev pub plain_index : (name : List ℕ) → (table : ℕ) → (columns : List ℕ) → Index
plain_index name table columns = record { name = name; tree = 0; table = table; columns = columns; order = plain; is_unique = false }

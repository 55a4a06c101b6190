-- A described row is stored as it is: each column has a value of its kind, and there are as many as columns.
use Rattle.std.proofs.Common.{◌≡◌, ℕ, suc, ℤ, Bool, true, false, List, [], ◌∷◌, map, length, Option, Some, None, codes, refl, sym, ap, subst, ◌∙◌}
use Rattle.std.specs.Prelude.{if◌then◌else◌}
use Rattle.std.proofs.lemmas.Bool.{and_from}
use Rattle.std.proofs.lemmas.List.{length-map}
use Rattle.sqlite.specs.Cast.{cast_row}
use Rattle.sqlite.specs.Kind.TheVariants as kinds
use Rattle.sqlite.specs.Values.{or_null}
use Rattle.sqlite_value.specs.declared.value.Value.{Value}
use Rattle.sqlite_schema.specs.declared.schema.Column.{Column as PlainColumn}
use Rattle.sqlite_value.specs.Order.{Row}
use Rattle.sqlite_value.specs.declared.value.Value.TheVariants.{Int, Null, Text}
use Rattle.sql_statements.proofs.Casts.{are_kept, is_kept, row_kept}
use Rattle.sql_statements.specs.PlainTable.{plain_column}
use Rattle.sql_statements.specs.StoredRows.{whole, keyed, new_row, parameters_of}
use Rattle.sql_tables.specs.Columns.{flag, letter, line_reference, number}
use Rattle.sql_tables.specs.Description.{Column, Description, Field, as_row, blobs, flags, form, form_of, integers, is_not_null, is_rowid, kind_of, letters, letters_if_any, line_references, numbers, numbers_if_any, rowid_in, rowids, stored, stored_columns, table, texts, texts_if_any}

flag_kept : (b : Bool) → is_kept kinds.Integer (flag b) ≡ true
flag_kept true = refl
flag_kept false = refl

reference_kept : (o : Option (List ℕ)) → is_kept kinds.Text (line_reference o) ≡ true
reference_kept None = refl
reference_kept (Some []) = refl
reference_kept (Some (c ∷ s)) = refl

text_kept : (o : Option (List ℕ)) → is_kept kinds.Text (or_null Text o) ≡ true
text_kept None = refl
text_kept (Some t) = refl

letter_kept : (o : Option ℕ) → is_kept kinds.Text (or_null letter o) ≡ true
letter_kept None = refl
letter_kept (Some c) = refl

number_kept : (o : Option ℕ) → is_kept kinds.Integer (or_null number o) ≡ true
number_kept None = refl
number_kept (Some n) = refl

field_kept : {X : Type 0} (field : Field X) (x : X) → is_kept (kind_of field) (stored field x) ≡ true
field_kept (texts f) x = refl
field_kept (letters f) x = refl
field_kept (line_references f) x = reference_kept (f x)
field_kept (numbers f) x = refl
field_kept (integers f) x = refl
field_kept (flags f) x = flag_kept (f x)
field_kept (blobs f) x = refl
field_kept (texts_if_any f) x = text_kept (f x)
field_kept (letters_if_any f) x = letter_kept (f x)
field_kept (numbers_if_any f) x = number_kept (f x)
field_kept (rowids f) x = refl

null_kept : {X : Type 0} (field : Field X) → is_kept (kind_of field) Null ≡ true
null_kept (texts f) = refl
null_kept (letters f) = refl
null_kept (line_references f) = refl
null_kept (numbers f) = refl
null_kept (integers f) = refl
null_kept (flags f) = refl
null_kept (blobs f) = refl
null_kept (texts_if_any f) = refl
null_kept (letters_if_any f) = refl
null_kept (numbers_if_any f) = refl
null_kept (rowids f) = refl

abbrev plain_of : {X : Type 0} → List (Column X) → List PlainColumn
plain_of columns = map (λ c. plain_column (codes c.name) (kind_of c.field) (is_not_null c.field)) columns

all_kept : {X : Type 0} (columns : List (Column X)) (x : X) → are_kept (plain_of columns) (stored_columns columns x) ≡ true
all_kept [] x = refl
all_kept (c ∷ columns) x = and_from _ _ (field_kept c.field x) (all_kept columns x)

-- the row that is given has a rowid or none, and then values of the columns' kinds
record IsKept {X : Type 0} (columns : List (Column X)) (row : Row) : Type 0 where
  first : Value
  others : Row
  are : row ≡ first ∷ others
  first_kept : is_kept kinds.Integer first ≡ true
  others_kept : are_kept (plain_of columns) others ≡ true

given_kept : {X : Type 0} (columns : List (Column X)) (x : X) → IsKept columns (new_row (form_of columns) x)
given_kept [] x = record { first = Null; others = []; are = refl; first_kept = refl; others_kept = refl }
given_kept {X} (c ∷ cs) x = go (is_rowid c.field)
  where
    go : (b : Bool) → IsKept (c ∷ cs) (new_row (if b then keyed (rowid_in c.field) (stored_columns cs) else whole (stored_columns (c ∷ cs))) x)
    go true = record { first = Int (rowid_in c.field x); others = Null ∷ stored_columns cs x; are = refl; first_kept = refl; others_kept = and_from _ _ (null_kept c.field) (all_kept cs x) }
    go false = record { first = Null; others = stored_columns (c ∷ cs) x; are = refl; first_kept = refl; others_kept = all_kept (c ∷ cs) x }

given_wide : {X : Type 0} (columns : List (Column X)) (x : X) → length (parameters_of (form_of columns) x) ≡ length columns
given_wide [] x = refl
given_wide {X} (c ∷ cs) x = go (is_rowid c.field)
  where
    go : (b : Bool) → length (parameters_of (if b then keyed (rowid_in c.field) (stored_columns cs) else whole (stored_columns (c ∷ cs))) x) ≡ length (c ∷ cs)
    go true = ap suc (length-map cs _)
    go false = ap suc (length-map cs _)

module _ {X : Type 0} (d : Description X) where
  -- under a rowid
  pub row_stored : (id : ℤ) (x : X) → cast_row (table d) (Int id ∷ as_row d x) ≡ Int id ∷ as_row d x
  row_stored id x = row_kept (table d) (Int id) (as_row d x) refl (all_kept d.columns x)

  -- as a statement gives it
  pub given_stored : (x : X) → cast_row (table d) (new_row (form d) x) ≡ new_row (form d) x
  given_stored x =
      let it = given_kept d.columns x in
      subst (λ row. cast_row (table d) row ≡ row) (sym it.are) (row_kept (table d) it.first it.others it.first_kept it.others_kept)

  pub row_wide : (x : X) → length (parameters_of (form d) x) ≡ length (table d).columns
  row_wide x = given_wide d.columns x ∙ sym (length-map d.columns _)

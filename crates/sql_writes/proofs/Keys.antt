-- What the key of a table tells of a row that is put in, and where that row stands.
use Rattle.std.proofs.Common.{◌≡◌, ◌≤◌, ℤ, ℕ, Bool, true, false, not, ◌&&◌, List, [], ◌∷◌, filter, length, find, None, refl, ap, ◌∙◌, ◌==◌, bytes_eq, Ordering, is_eq, int_eq}
use Rattle.std.specs.Cmp.{IsTotalOrder}
use Rattle.std.specs.List.{AllByRecursion, list_any}
use Rattle.std.proofs.lemmas.Bool.{and_from, or_parts}
use Rattle.sqlite_sql.specs.declared.ops.BinaryOp.TheVariants.{Compare}
use Rattle.sqlite_sql.specs.declared.ops.CompareOp.TheVariants.{Eq}
use Rattle.sqlite_sql.specs.Ops.{binary, is_true}
use Rattle.sqlite_value.specs.declared.keys.Collation.TheVariants.{Binary}
use Rattle.sqlite_value.specs.declared.value.Value.TheVariants.{Text}
use Rattle.sqlite.specs.Schema.{Schema}
use Rattle.sqlite.specs.Table.{Table}
use Rattle.sqlite_value.specs.Keys.{plain}
use Rattle.sqlite_value.specs.Order.{Row}
use Rattle.sqlite_trees.specs.Tree.{Trees, rowid}
use Rattle.sqlite_schema.specs.declared.schema.Constraint.TheVariants.{Unique}
use Rattle.sqlite_schema.specs.Rules.{passes as obeys, agree, differ}
use Rattle.sqlite_rules.specs.Lists.{Has}
use Rattle.sqlite_rules.proofs.ListLemmas.{some_from}
use Rattle.sqlite_keyed.specs.Lists.{insert_sorted}
use Rattle.sql_statements.specs.StoredRows.{Form, rowid_of, row_of, Stores}
use Rattle.sql_statements.proofs.Conditions.{int_differ, text_is}
use Rattle.sql_statements.proofs.FreeKeys.{one_kept, free_before}
use Rattle.sql_statements.proofs.KeyOrder.{moves_sorted, rises_sorted}
use Rattle.sql_statements.proofs.StoredRows.{stores_in}
use Rattle.sql_tables.specs.Columns.{number, letter}
use Rattle.sql_tables.specs.KeyOrders.{IsInOrder}
use Rattle.sql_tables.specs.Tables.{IsTableOf}
use Rattle.sql_query_laws.proofs.Conditions.{letter_is}
use Rattle.sql_writes.proofs.Conditions.{same_text, same_number, number_is}

pub find_none : {X : Type 0} (p : X → Bool) (xs : List X) → list_any p xs ≡ false → find p xs ≡ None
find_none p [] h = refl
find_none p (x ∷ xs) h = let parts = or_parts (p x) (list_any p xs) h in rw (parts.0) (find_none p xs parts.1)

-- these columns are a key of the table, and p tells who has the key of the row that was put in
module _ {X : Type 0} (form : Form X) (schema : Schema) (table : Table) (columns : List ℕ) (p : X → Bool)
    (agrees : (a b : ℤ × X) → p a.1 ≡ true → p b.1 ≡ true → agree plain columns (row_of form b) columns (row_of form a) ≡ true)
    (guards : (db : Trees) (row : Row) → list_any (λ other. agree plain columns other columns row && differ (rowid other) (rowid row)) (db table.tree) ≡ true → obeys Unique schema db table row ≡ false) where
  clash : (db : Trees) (a b : ℤ × X) → Has (db table.tree) (row_of form b) → p a.1 ≡ true → p b.1 ≡ true → int_eq (rowid_of form b) (rowid_of form a) ≡ false → obeys Unique schema db table (row_of form a) ≡ false
  clash db a b has here there apart =
      let both : (agree plain columns (row_of form b) columns (row_of form a) && differ (rowid (row_of form b)) (rowid (row_of form a))) ≡ true =
      and_from _ _ (agrees a b here there) (int_differ (rowid_of form b) (rowid_of form a) ∙ ap not apart) in
      guards db (row_of form a) (some_from (λ other. agree plain columns other columns (row_of form a) && differ (rowid other) (rowid (row_of form a))) (db table.tree) (row_of form b) has both)

  -- so at most one row has it
  pub few_have : (db : Trees) (xs : List X) → Stores form (db table.tree) xs → AllByRecursion (λ row. obeys Unique schema db table row ≡ true) (db table.tree) → length (filter p xs) ≤ 1
  few_have = one_kept p form schema table clash

  -- and no row had it before
  pub key_free : (new : Trees) (x : X) (xs : List X) → p x ≡ true → Stores form (new table.tree) (x ∷ xs) → AllByRecursion (λ row. obeys Unique schema new table row ≡ true) (new table.tree) → list_any p xs ≡ false
  key_free new x xs here stored rules = free_before p x xs here (few_have new (x ∷ xs) stored rules)

-- the row stands where its key belongs
pub put_in_order : {X : Type 0} (form : Form X) (cmp : X → X → Ordering) → IsTotalOrder cmp → (p : X → Bool) (trees : Trees) (table : Table) (x : X) (xs : List X) → ((y : X) → is_eq (cmp y x) ≡ p y) → list_any p xs ≡ false
    → IsInOrder cmp xs → Stores form (trees table.tree) (x ∷ xs) → IsTableOf trees table form cmp (insert_sorted cmp x xs)
put_in_order form cmp total p trees table x xs same free rise stored = record {
  stored = stores_in form _ _ _ (moves_sorted cmp x xs) stored;
  rise = rises_sorted cmp total x xs ((λ i. list_any (λ y. same y i) xs) ∙ free) rise;
}

-- ---- two rows that have one key agree

pub key_text : (a b c : List ℕ) → bytes_eq a c ≡ true → bytes_eq b c ≡ true → is_true (binary (Compare Eq Binary) (Text b) (Text a)) ≡ true
key_text a b c here there = text_is b a ∙ ap (bytes_eq b) (same_text a c here) ∙ there

pub key_number : (a b n : ℕ) → (a == n) ≡ true → (b == n) ≡ true → is_true (binary (Compare Eq Binary) (number b) (number a)) ≡ true
key_number a b n here there = number_is b a ∙ ap (λ m. b == m) (same_number a n here) ∙ there

pub key_letter : (a b c : ℕ) → (a == c) ≡ true → (b == c) ≡ true → is_true (binary (Compare Eq Binary) (letter b) (letter a)) ≡ true
key_letter a b c here there = letter_is b a ∙ ap (λ m. b == m) (same_number a c here) ∙ there

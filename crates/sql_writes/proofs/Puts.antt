-- What the statement leaves that puts one row or sixteen into the table of a name, that changes its rows or takes some away.
use Rattle.std.proofs.Common.{◌≡◌, ◌/◌, ℕ, ℤ, suc, Bool, true, false, List, [], ◌∷◌, ◌++◌, filter, length, slice_get, Some, Ok, refl, sym, subst, append-nil}
use Rattle.std.specs.List.{AllByRecursion, flat_map, list_all}
use Rattle.sqlite.specs.State.{State, Executes}
use Rattle.sqlite_keyed.specs.Lists.{update_where, delete_where}
use Rattle.sqlite_rules.specs.Action.{works}
use Rattle.sqlite_schema.specs.Rules.{Keeps, passes as obeys}
use Rattle.sqlite_schema.specs.declared.schema.Constraint.TheVariants.{Unique}
use Rattle.sqlite_schema.specs.declared.schema.Keys.TheVariants.{Enforced}
use Rattle.sqlite_sql.specs.Term.{holds, eval_all}
use Rattle.sqlite_trees.specs.Tree.{Trees}
use Rattle.sqlite_value.specs.Order.{Row}
use Rattle.sql_statements.proofs.Changes.{updated_counted, deleted}
use Rattle.sql_statements.proofs.Inserts.{inserted, insert_rules}
use Rattle.sql_statements.specs.Layouts.{Holds}
use Rattle.sql_statements.specs.PlainTable.{table_at}
use Rattle.sql_statements.specs.Statements.{IsInsert, IsUpdate, IsDelete, rows_shown}
use Rattle.sql_statements.specs.StoredRows.{whole, is_keyed, parameters_of, row_of, Stores}
use Rattle.sql_tables.proofs.ByName.{Others, with_records, changed, each_table}
use Rattle.sql_tables.proofs.StoredKinds.{given_stored, row_stored, row_wide}
use Rattle.sql_tables.specs.ByName as named
use Rattle.sql_tables.specs.ByName.{Name, Of, described, records, StandsAt}
use Rattle.sql_tables.specs.Change.{Change}
use Rattle.sql_tables.specs.Description.{as_row, form, table, insert_text, insert_sixteen_text}
use Rattle.sql_tables.specs.Layout.{desk_layout}
use Rattle.sql_tables.specs.Schema.{desk_schema}
use Rattle.sql_tables.specs.Tables.{Tables}

-- the place of the table among those of the schema
abbrev pub place_of : Name → ℕ
place_of named.desk = 0
place_of named.holidays = 1
place_of named.companies = 2
place_of named.submissions = 3
place_of named.entries = 4
place_of named.returns = 5
place_of named.changes = 6
place_of named.postings = 7
place_of named.suspense = 8
place_of named.files = 9
place_of named.taken = 10
place_of named.balances = 11
place_of named.numbers = 12
place_of named.authorizations = 13

listed : (n : Name) → slice_get desk_schema.tables (place_of n) ≡ Some (table (described n))
listed named.desk = refl
listed named.holidays = refl
listed named.companies = refl
listed named.submissions = refl
listed named.entries = refl
listed named.returns = refl
listed named.changes = refl
listed named.postings = refl
listed named.suspense = refl
listed named.files = refl
listed named.taken = refl
listed named.balances = refl
listed named.numbers = refl
listed named.authorizations = refl

-- no statement that puts rows in has to do more for them
quiet : (n : Name) (olds news : List Row) → works desk_schema Enforced 0 (described n).tree olds news ≡ []
quiet named.desk olds news = refl
quiet named.holidays olds news = refl
quiet named.companies olds news = refl
quiet named.submissions olds news = refl
quiet named.entries olds news = refl
quiet named.returns olds news = refl
quiet named.changes olds news = refl
quiet named.postings olds news = refl
quiet named.suspense olds news = refl
quiet named.files olds news = refl
quiet named.taken olds news = refl
quiet named.balances olds news = refl
quiet named.numbers olds news = refl
quiet named.authorizations olds news = refl

-- the table has these records, and all other tables are as they were
pub record HasRecords (n : Name) (xs : List (Of n)) (old new : State) : Type 0 where
  pub schema_is : new.now.schema ≡ desk_schema
  pub others : Others n old.now.trees new.now.trees
  pub stored : Stores (form (described n)) (new.now.trees (described n).tree) xs

-- where they stand in order, the tables hold with them
pub holds_with : (n : Name) (ys : List (Of n)) {xs : List (Of n)} {old new : State} {t : Tables} → Holds desk_layout old.now t → HasRecords n xs old new → StandsAt new.now.trees n (records n (with_records n ys t)) → Holds desk_layout new.now (with_records n ys t)
holds_with n ys {old = old} {new = new} {t = t} h has is = (has.schema_is, changed n old.now.trees new.now.trees t h.1 has.others ys is)

-- the keys of the table allow each of its rows
abbrev pub AreUnique : Name → Trees → Type 0
AreUnique n trees = AllByRecursion (λ r. obeys Unique desk_schema trees (table (described n)) r ≡ true) (trees (described n).tree)

-- it has these records more, and its keys allow each
pub record HasPut (n : Name) (xs : List (Of n)) (old new : State) (t : Tables) : Type 0 where
  pub has : HasRecords n (xs ++ records n t) old new
  pub unique : AreUnique n new.now.trees

module _ (n : Name) where
  abbrev width : ℕ
  width = length (table (described n)).columns

  abbrev under_keys : Bool
  under_keys = is_keyed (form (described n))

  abbrev given : Of n → Row
  given = parameters_of (form (described n))

  -- ---- rows are put in

  -- the text puts its parameters, which are so many rows, into the table
  abbrev pub Inserts : (sql : List ℕ) → (rows : ℕ) → Type 0
  Inserts sql rows = IsInsert desk_schema sql (place_of n) under_keys (table (described n)) rows

  pub record PutsRows (rows : ℕ) (sql : List ℕ) : Type 0 where
    pub is : Inserts sql rows
    pub full : length (rows_shown under_keys width 0 rows) / suc width ≡ rows

  rows_put : (rows : ℕ) (sql : List ℕ) → PutsRows rows sql → (xs : List (Of n)) → length xs ≡ rows → (old new : State) (count : ℕ) → Executes sql (flat_map given xs) old new (Ok count) → (t : Tables) → Holds desk_layout old.now t → HasPut n xs old new t
  rows_put rows sql puts xs many old new count ran t h =
      let d = described n in
      let s = table d in
      let done = inserted (form d) desk_schema (place_of n) d.tree s.name s.columns s.primary s.uniques s.orders sql rows puts.is (listed n) (quiet n) puts.full (row_wide d) (given_stored d) xs many old new count h.0 (records n t) (h.1.stands n).stored ran in
      let rules : Keeps Unique desk_schema new.now.trees = insert_rules desk_schema sql (place_of n) under_keys s rows puts.is (flat_map given xs) old new count h.0 done.0.schema_is ran in
      record { has = record { schema_is = done.0.schema_is; others = done.0.others; stored = done.1 }; unique = each_table (λ u. AllByRecursion (λ r. obeys Unique desk_schema new.now.trees u r ≡ true) (new.now.trees u.tree)) rules n }

  -- one row, or sixteen
  abbrev pub PutsOne : Type 0
  PutsOne = PutsRows 1 (insert_text (described n))

  abbrev pub PutsSixteen : Type 0
  PutsSixteen = PutsRows 16 (insert_sixteen_text (described n))

  pub one_put : PutsOne → (x : Of n) (old new : State) (count : ℕ) → Executes (insert_text (described n)) (given x) old new (Ok count) → (t : Tables) → Holds desk_layout old.now t → HasPut n (x ∷ []) old new t
  one_put puts x old new count ran =
      rows_put 1 (insert_text (described n)) puts (x ∷ []) refl old new count (subst (λ params. Executes (insert_text (described n)) params old new (Ok count)) (sym (append-nil (given x))) ran)

  pub sixteen_put : PutsSixteen → (xs : List (Of n)) → length xs ≡ 16 → (old new : State) (count : ℕ) → Executes (insert_sixteen_text (described n)) (flat_map given xs) old new (Ok count) → (t : Tables) → Holds desk_layout old.now t → HasPut n xs old new t
  sixteen_put = rows_put 16 (insert_sixteen_text (described n))

  -- ---- rows are changed, or go

  pub record IsUpdateOf (change : Change) : Type 0 where
    pub is : IsUpdate desk_schema change.text (place_of n) (described n).tree change.tests change.sets

  pub record IsDeleteOf (change : Change) : Type 0 where
    pub is : IsDelete desk_schema change.text (place_of n) (described n).tree change.tests

  module _ (change : Change) (params : Row) (p : Of n → Bool)
      (tested : (i : ℤ) (x : Of n) → list_all (holds (params ∷ row_of (form (described n)) (i, x) ∷ [])) change.tests ≡ p x) (old new : State) (count : ℕ) (ran : Executes change.text params old new (Ok count)) (t : Tables) (h : Holds desk_layout old.now t) where
    -- of a table whose key is no rowid
    pub rows_updated : IsUpdateOf change → form (described n) ≡ whole (as_row (described n))
        → (f : Of n → Of n) → ((i : ℤ) (x : Of n) → p x ≡ true → eval_all change.sets (params ∷ row_of (whole (as_row (described n))) (i, x) ∷ []) ≡ as_row (described n) (f x))
        → HasRecords n (update_where p f (records n t)) old new × (count ≡ length (filter p (records n t)))
    rows_updated of is_whole f made =
        let d = described n in
        let s = table d in
        let stored : Stores (whole (as_row d)) (old.now.trees d.tree) (records n t) = subst (λ k. Stores k (old.now.trees d.tree) (records n t)) is_whole (h.1.stands n).stored in
        let there : slice_get desk_schema.tables (place_of n) ≡ Some (table_at false d.tree s.name s.columns s.primary s.uniques s.orders) =
        subst (λ k. slice_get desk_schema.tables (place_of n) ≡ Some (table_at (is_keyed k) d.tree s.name s.columns s.primary s.uniques s.orders)) is_whole (listed n) in
        let tests : (i : ℤ) (x : Of n) → list_all (holds (params ∷ row_of (whole (as_row d)) (i, x) ∷ [])) change.tests ≡ p x =
        subst (λ k. (i : ℤ) (x : Of n) → list_all (holds (params ∷ row_of k (i, x) ∷ [])) change.tests ≡ p x) is_whole tested in
        let done = updated_counted (as_row d) desk_schema (place_of n) d.tree s.name s.columns s.primary s.uniques s.orders change.text change.tests change.sets of.is there (quiet n) params p f tests made (row_stored d) old new count h.0 (records n t) stored ran in
        let back = subst (λ k. Stores k (new.now.trees d.tree) (update_where p f (records n t))) (sym is_whole) done.1 in
        (record { schema_is = done.0.schema_is; others = done.0.others; stored = back }, done.2)

    pub rows_deleted : IsDeleteOf change → HasRecords n (delete_where p (records n t)) old new
    rows_deleted of =
        let d = described n in
        let s = table d in
        let done = deleted (form d) desk_schema (place_of n) d.tree s.name s.columns s.primary s.uniques s.orders change.text change.tests of.is (listed n) (quiet n) params p tested old new count h.0 (records n t) (h.1.stands n).stored ran in
        record { schema_is = done.0.schema_is; others = done.0.others; stored = done.1 }

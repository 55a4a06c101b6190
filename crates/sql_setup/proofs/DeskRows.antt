-- The row of a new desk is put into tables that have no rows.
use Rattle.std.proofs.Common.{◌≡◌, ◌≢◌, ℕ, false, List, [], ◌∷◌, None, Ok, refl, ◌∙◌, arith, Ordering}
use Rattle.std.specs.List.{AllByRecursion}
use Rattle.std.proofs.lemmas.List.Sorted.{IsPermutation-refl}
use Rattle.sqlite_tied.specs.Compute.{everything}
use Rattle.sqlite.specs.Listing.{understood}
use Rattle.sqlite.specs.State.{State, Executes}
use Rattle.sqlite.specs.Table.{Table}
use Rattle.sqlite_keyed.proofs.ListLemmas.{all_both}
use Rattle.sqlite_trees.specs.Tree.{Trees}
use Rattle.sqlite_value.specs.Order.{Row}
use Rattle.sql_statements.specs.Definitions.{IsBlank}
use Rattle.sql_statements.specs.Statements.{IsInsert}
use Rattle.sql_statements.specs.StoredRows.{Form, Stores}
use Rattle.sql_statements.proofs.Inserts.{inserted}
use Rattle.sql_statements.specs.Layouts.{Holds}
use Rattle.desk_history.specs.declared.identity.Identity.{Identity}
use Rattle.sql_tables.specs.Schema.{desk_schema}
use Rattle.sql_tables.specs.Layout.{desk_layout}
use Rattle.sql_tables.proofs.ByName.{each_table}
use Rattle.sql_tables.proofs.StoredKinds.{given_stored, row_wide}
use Rattle.sql_tables.specs.ByName as named
use Rattle.sql_tables.specs.ByName.{Name, described, records, StandsAt, IsStored}
use Rattle.sql_tables.specs.Description.{table, as_row, form}
use Rattle.sql_tables.specs.Tables.{IsTableOf}
use Rattle.sql_tables.specs.declared.records.DeskRecord.{DeskRecord}
use Rattle.sql_setup.specs.Setup.{new_tables}
use Rattle.std.proofs.Common.{codes}
use Rattle.sql_tables.specs.DeskTables as the

abbrev pub insert_desk : List ℕ
insert_desk = codes "INSERT INTO desk VALUES (?1, ?2, ?3, ?4, ?5, ?6, ?7, ?8)"

insert_desk_is : IsInsert desk_schema insert_desk 0 false (table the.desk) 1
unfolding understood everything
insert_desk_is = record { is = refl; plain = (refl, refl) }

stores_none : {X : Type 0} (stored_as : Form X) (rows : List Row) → rows ≡ [] → Stores stored_as rows []
stores_none stored_as rows none = record { numbered = []; are = none; rise = tt; same = IsPermutation-refl [] }

-- a table with no rows
none_in : {X : Type 0} {stored_as : Form X} {cmp : X → X → Ordering} (trees : Trees) (table : Table) → trees table.tree ≡ [] → IsTableOf trees table stored_as cmp []
none_in {stored_as = stored_as} trees table none = record { stored = stores_none stored_as (trees table.tree) none; rise = tt }

-- the tree of every table but that of the desk has no rows
abbrev OthersEmpty : Trees → Type 0
OthersEmpty trees = AllByRecursion (λ t. t.tree ≢ 0 → trees t.tree ≡ []) desk_schema.tables

new_stored : (identity : Identity) (key : List ℕ) (trees : Trees) → OthersEmpty trees → Stores (form the.desk) (trees 0) (record { identity = identity; operator_key = key; day = None } ∷ []) → IsStored trees (new_tables identity key)
new_stored identity key trees none desk = record { stands = stands }
  where
    empty : (n : Name) → (described n).tree ≢ 0 → StandsAt trees n []
    empty n apart = none_in trees (table (described n)) (each_table (λ t. t.tree ≢ 0 → trees t.tree ≡ []) none n apart)

    stands : (n : Name) → StandsAt trees n (records n (new_tables identity key))
    stands named.desk = record { stored = desk; rise = (tt, tt) }
    stands named.holidays = empty named.holidays (λ e. omega (arith, e))
    stands named.companies = empty named.companies (λ e. omega (arith, e))
    stands named.submissions = empty named.submissions (λ e. omega (arith, e))
    stands named.entries = empty named.entries (λ e. omega (arith, e))
    stands named.returns = empty named.returns (λ e. omega (arith, e))
    stands named.changes = empty named.changes (λ e. omega (arith, e))
    stands named.postings = empty named.postings (λ e. omega (arith, e))
    stands named.suspense = empty named.suspense (λ e. omega (arith, e))
    stands named.files = empty named.files (λ e. omega (arith, e))
    stands named.taken = empty named.taken (λ e. omega (arith, e))
    stands named.balances = empty named.balances (λ e. omega (arith, e))
    stands named.numbers = empty named.numbers (λ e. omega (arith, e))
    stands named.authorizations = empty named.authorizations (λ e. omega (arith, e))

pub desk_put : (identity : Identity) (key : List ℕ) (old new : State) (count : ℕ) → Executes insert_desk (as_row the.desk (record { identity = identity; operator_key = key; day = None })) old new (Ok count)
    → IsBlank desk_schema old.now → Holds desk_layout new.now (new_tables identity key)
desk_put identity key old new count ran blank =
    let d : DeskRecord = record { identity = identity; operator_key = key; day = None } in
    let s = table the.desk in
    let done = inserted (form the.desk) desk_schema 0 0 s.name s.columns s.primary s.uniques s.orders insert_desk 1 insert_desk_is refl (λ olds news. refl) refl (row_wide the.desk) (given_stored the.desk) (d ∷ []) refl old new count blank.schema_is [] (stores_none (form the.desk) (old.now.trees 0) blank.empty.0) ran in
    let others = all_both (λ t. t.tree ≢ 0 → new.now.trees t.tree ≡ old.now.trees t.tree) (λ t. old.now.trees t.tree ≡ []) (λ t. t.tree ≢ 0 → new.now.trees t.tree ≡ []) (λ t same none apart. same apart ∙ none) desk_schema.tables done.0.others blank.empty in
    (done.0.schema_is, new_stored identity key new.now.trees others done.1)

-- The statements that add tables and set the version make version 2's tables.
use Rattle.std.proofs.Common.{◌≡◌, ◌≢◌, ℕ, ℤ, List, [], ◌∷◌, map, Option, None, Some, Ok, true, refl, sym, ap, ◌∙◌, subst, arith, pos, IsPermutation, Ordering}
use Rattle.std.specs.List.{AllByRecursion}
use Rattle.std.proofs.lemmas.List.Sorted.{IsPermutation-refl, IsPermutation-sym, length_permutation}
use Rattle.sqlite_tied.specs.Compute.{everything}
use Rattle.sqlite.specs.Effect.{Database}
use Rattle.sqlite.specs.Listing.{understood}
use Rattle.std.proofs.Common.{slice_get, true≢false}
use Rattle.std.proofs.lemmas.Bool.{eqb-true}
use Rattle.sqlite_schema.specs.declared.command.Command.{Command}
use Rattle.sqlite_schema.specs.declared.command.Command.TheVariants.{Update}
use Rattle.sqlite_schema.specs.declared.schema.Keys.TheVariants.{Enforced}
use Rattle.sqlite.proofs.Callers.{command_of, runs_as, statement_of}
use Rattle.sqlite.specs.Does.{Does}
use Rattle.sqlite.specs.State.{State, Executes, Runs, mode_of}
use Rattle.sql_migration.proofs.KeptSchemas.{rows_schema}
use Rattle.sqlite.specs.Table.{Table}
use Rattle.sqlite.specs.declared.types.Value.TheVariants.{Int}
use Rattle.sqlite_trees.specs.Tree.{Trees}
use Rattle.sqlite_trees.proofs.ListLemmas.{all-permutation}
use Rattle.sqlite_value.specs.Order.{Row}
use Rattle.sql_statements.proofs.Casts.{row_kept, are_kept}
use Rattle.sql_statements.proofs.Changes.{updated}
use Rattle.sql_statements.proofs.Conditions.{int_is, and_true}
use Rattle.sql_statements.specs.Statements.{IsUpdate, is_update}
use Rattle.sql_statements.specs.StoredRows.{Form, whole, row_of, Stores}
use Rattle.sql_statements.specs.Layouts.{Holds}
use Rattle.sql_tables.specs.Description.{as_row, form, table}
use Rattle.sql_tables.specs.DeskTables as the
use Rattle.sql_tables.specs.Schema.{desk_schema}
use Rattle.sql_tables.specs.Layout.{desk_layout}
use Rattle.sql_tables.proofs.ByName.{each_table}
use Rattle.sql_tables.specs.ByName as named
use Rattle.sql_tables.specs.ByName.{Name, described, records, StandsAt}
use Rattle.sql_tables.specs.Tables.{Tables, IsTableOf}
use Rattle.sql_tables.specs.declared.records.DeskRecord.{DeskRecord}
use Rattle.sql_migration.specs.FirstVersion.{first_schema, versioned_row, IsFirstStored}
use Rattle.sql_migration.specs.MigrationTexts.{update_version}
use Rattle.sql_migration.proofs.AddedTables.{Adds}
use Rattle.sql_migration.proofs.NewTables.{numbered_schema, written_numbers, written_authorizations}

-- ---- a table of one row

one_row : {X : Type 0} (row : X → Row) (rows : List Row) (x : X) → Stores (whole row) rows (x ∷ []) → (i : ℤ) × (rows ≡ (Int i ∷ row x) ∷ [])
one_row {X = X} row rows x h = go h.numbered h.are h.same
  where
    go : (ps : List (ℤ × X)) → rows ≡ map (row_of (whole row)) ps → IsPermutation (map (λ (p : ℤ × X). p.1) ps) (x ∷ []) → (i : ℤ) × (rows ≡ (Int i ∷ row x) ∷ [])
    go [] are same = absurd (let n = length_permutation _ _ same in omega (arith, n))
    go (p ∷ []) are same =
        let its : p.1 ≡ x = (all-permutation (λ y. y ≡ x) (x ∷ []) (p.1 ∷ []) (IsPermutation-sym (p.1 ∷ []) (x ∷ []) same) (refl, tt)).0 in
        (p.0, are ∙ ap (λ y. (Int p.0 ∷ row y) ∷ []) its)
    go (p ∷ q ∷ ps) are same = absurd (let n = length_permutation _ _ same in omega (arith, n))

-- it is also a row of something else
row_as : {X Y : Type 0} (row : X → Row) (other : Y → Row) (rows : List Row) (x : X) (y : Y) → row x ≡ other y → Stores (whole row) rows (x ∷ []) → Stores (whole other) rows (y ∷ [])
row_as {Y = Y} row other rows x y same h =
    let it = one_row row rows x h in
    record { numbered = (it.0, y) ∷ []; are = it.1 ∙ ap (λ r. (Int it.0 ∷ r) ∷ []) same; rise = (tt, tt); same = IsPermutation-refl (y ∷ []) }

-- ---- the version is set

abbrev Versioned : Type 0
Versioned = ℕ × DeskRecord

abbrev its_row : Versioned → Row
its_row v = versioned_row v.0 v.1

update_version_is : IsUpdate desk_schema update_version.text 0 0 update_version.tests update_version.sets
unfolding understood everything
update_version_is = record { updates = refl; body = refl; alone = refl; plain = (refl, refl) }

versioned_kept : (v : Versioned) → are_kept (table the.desk).columns (its_row v) ≡ true
versioned_kept v = go v.1.day
  where
    go : (o : Option ℕ) → are_kept (table the.desk).columns (its_row (v.0, record v.1 { day = o })) ≡ true
    go None = refl
    go (Some n) = refl

pub record SetsVersion (d : DeskRecord) (old new : Database) : Type 0 where
  pub schema_is : new.schema ≡ desk_schema
  pub others : AllByRecursion (λ t. t.tree ≢ 0 → new.trees t.tree ≡ old.trees t.tree) desk_schema.tables
  pub row : Stores (form the.desk) (new.trees 0) (d ∷ [])

pub version_set : (d : DeskRecord) (old new : State) (count : ℕ) → old.now.schema ≡ desk_schema → Stores (whole (versioned_row 1)) (old.now.trees 0) (d ∷ []) → Executes update_version.text [] old new (Ok count) → SetsVersion d old.now new.now
version_set d old new count has stored ran =
    let s = table the.desk in
    let was : Stores (whole its_row) (old.now.trees 0) ((1, d) ∷ []) = row_as (versioned_row 1) its_row (old.now.trees 0) d (1, d) refl stored in
    let done = updated its_row desk_schema 0 0 s.name s.columns s.primary s.uniques s.orders update_version.text update_version.tests update_version.sets
    update_version_is refl (λ olds news. refl) [] (λ _. true) (λ v. (2, v.1))
    (λ i v. and_true _ ∙ int_is (pos 1) (pos 1)) (λ i v _. refl) (λ i v. row_kept s (Int i) (its_row v) refl (versioned_kept v)) old new count has ((1, d) ∷ []) was ran in
    record { schema_is = done.0.schema_is; others = done.0.others; row = row_as its_row (as_row the.desk) (new.now.trees 0) (2, d) d refl done.1 }

-- the schema stays, whatever rows there are
pub schema_stays : (old new : State) (count : ℕ) → old.now.schema ≡ desk_schema → Executes update_version.text [] old new (Ok count) → new.now.schema ≡ desk_schema
schema_stays old new count has ran =
    run (command_of (understood desk_schema update_version.text)) update_version_is.updates (runs_as update_version.text [] old new desk_schema has (command_of (understood desk_schema update_version.text)) refl update_version_is.plain count ran)
  where
    run : (c : Command) → is_update 0 c ≡ true → Runs old new None c (statement_of update_version.text (understood desk_schema update_version.text)) [] count → new.now.schema ≡ desk_schema
    run (Update place q) picks w =
        let all = subst (λ s. Does old.step_limit (mode_of old) [] (record old.now { schema = s }) (statement_of update_version.text (understood desk_schema update_version.text)) None (Update place q) (Ok (w.tally, new.now))) has w.changed in
        let here : place ≡ 0 = sym (eqb-true 0 place picks) in
        let listed : slice_get desk_schema.tables place ≡ Some (table the.desk) = rw here refl in
        rows_schema (record { limit = old.step_limit; keys = Enforced; schema = desk_schema; table = table the.desk; params = [] }) old (Update place q) old.now.trees w.tally new.now (rw listed at all)
    run _ picks w = absurd (true≢false (sym picks))

-- ---- all tables

moved : {X : Type 0} {from to : Trees} {table : Table} {stored_as : Form X} {cmp : X → X → Ordering} {xs : List X} → to table.tree ≡ from table.tree → IsTableOf from table stored_as cmp xs → IsTableOf to table stored_as cmp xs
moved {stored_as = stored_as} {xs = xs} same h = record { stored = subst (λ l. Stores stored_as l xs) (sym same) h.stored; rise = h.rise }

no_rows : {X : Type 0} {stored_as : Form X} {cmp : X → X → Ordering} (trees : Trees) (table : Table) → trees table.tree ≡ [] → IsTableOf trees table stored_as cmp []
no_rows trees table none = record { stored = record { numbered = []; are = none; rise = tt; same = IsPermutation-refl [] }; rise = tt }

abbrev pub with_no_numbers : Tables → Tables
with_no_numbers t = record t { numbers = []; authorizations = [] }

pub second_tables : (t : Tables) (s0 s1 s2 s3 : Database) → IsFirstStored s0.trees t → Adds first_schema written_numbers s0 s1 → Adds numbered_schema written_authorizations s1 s2 → SetsVersion t.desk s2 s3 → Holds desk_layout s3 (with_no_numbers t)
second_tables t s0 s1 s2 s3 h n a v = (v.schema_is, record { stands = stands })
  where
    stays : (n : Name) → (described n).tree ≢ 0 → s3.trees (described n).tree ≡ s2.trees (described n).tree
    stays n apart = each_table (λ u. u.tree ≢ 0 → s3.trees u.tree ≡ s2.trees u.tree) v.others n apart

    stands : (n : Name) → StandsAt s3.trees n (records n (with_no_numbers t))
    stands named.desk = record { stored = v.row; rise = (tt, tt) }
    stands named.holidays = moved (stays named.holidays (λ e. omega (arith, e)) ∙ a.others.1.0 ∙ n.others.1.0) h.holidays
    stands named.companies = moved (stays named.companies (λ e. omega (arith, e)) ∙ a.others.1.1.0 ∙ n.others.1.1.0) h.companies
    stands named.submissions = moved (stays named.submissions (λ e. omega (arith, e)) ∙ a.others.1.1.1.0 ∙ n.others.1.1.1.0) h.submissions
    stands named.entries = moved (stays named.entries (λ e. omega (arith, e)) ∙ a.others.1.1.1.1.0 ∙ n.others.1.1.1.1.0) h.entries
    stands named.returns = moved (stays named.returns (λ e. omega (arith, e)) ∙ a.others.1.1.1.1.1.0 ∙ n.others.1.1.1.1.1.0) h.returns
    stands named.changes = moved (stays named.changes (λ e. omega (arith, e)) ∙ a.others.1.1.1.1.1.1.0 ∙ n.others.1.1.1.1.1.1.0) h.changes
    stands named.postings = moved (stays named.postings (λ e. omega (arith, e)) ∙ a.others.1.1.1.1.1.1.1.0 ∙ n.others.1.1.1.1.1.1.1.0) h.postings
    stands named.suspense = moved (stays named.suspense (λ e. omega (arith, e)) ∙ a.others.1.1.1.1.1.1.1.1.0 ∙ n.others.1.1.1.1.1.1.1.1.0) h.suspense
    stands named.files = moved (stays named.files (λ e. omega (arith, e)) ∙ a.others.1.1.1.1.1.1.1.1.1.0 ∙ n.others.1.1.1.1.1.1.1.1.1.0) h.files
    stands named.taken = moved (stays named.taken (λ e. omega (arith, e)) ∙ a.others.1.1.1.1.1.1.1.1.1.1.0 ∙ n.others.1.1.1.1.1.1.1.1.1.1.0) h.taken
    stands named.balances = moved (stays named.balances (λ e. omega (arith, e)) ∙ a.others.1.1.1.1.1.1.1.1.1.1.1.0 ∙ n.others.1.1.1.1.1.1.1.1.1.1.1.0) h.balances
    stands named.numbers = no_rows s3.trees _ (stays named.numbers (λ e. omega (arith, e)) ∙ a.others.1.1.1.1.1.1.1.1.1.1.1.1.0 ∙ n.empty)
    stands named.authorizations = no_rows s3.trees _ (stays named.authorizations (λ e. omega (arith, e)) ∙ a.empty)

-- the row of the desk is as it was while tables are added
pub desk_stays : (t : Tables) (s0 s1 s2 : Database) → IsFirstStored s0.trees t → Adds first_schema written_numbers s0 s1 → Adds numbered_schema written_authorizations s1 s2 → Stores (whole (versioned_row 1)) (s2.trees 0) (t.desk ∷ [])
desk_stays t s0 s1 s2 h n a = subst (λ l. Stores (whole (versioned_row 1)) l (t.desk ∷ [])) (sym (a.others.0 ∙ n.others.0)) h.desk

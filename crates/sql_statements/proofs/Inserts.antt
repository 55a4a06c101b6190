-- What an INSERT of rows into a plain table leaves.
use Rattle.std.proofs.Common.{◌≡◌, ◌≢◌, ◌/◌, ◌⊎◌, inl, inr, ℕ, ℤ, Bool, suc, true, cond, List, [], ◌∷◌, ◌++◌, map, length, drop, slice_get, Some, None, Ok, Err, Result, refl, sym, ap, ap₂, ◌∙◌, subst, append-nil, IsPermutation}
use Rattle.std.specs.List.{AllByRecursion, flat_map}
use Rattle.std.proofs.lemmas.List.{map-append}
use Rattle.std.proofs.lemmas.List.Sorted.{IsPermutation-trans, IsPermutation-sym, IsPermutation-map, IsPermutation-append_right}
use Rattle.sqlite.specs.Order.{Row}
use Rattle.sqlite.specs.Term.{Term}
use Rattle.sqlite.specs.Table.{Table}
use Rattle.sqlite.specs.Schema.{Schema}
use Rattle.sqlite_schema.specs.declared.command.Source.TheVariants.{Values}
use Rattle.sqlite.specs.Command.TheVariants.{Insert}
use Rattle.sqlite.specs.Edit.{edit_of}
use Rattle.sqlite.specs.Cast.{cast_row}
use Rattle.sqlite.specs.Rowids.TheVariants.{Chosen}
use Rattle.sqlite.specs.Does.{Tally, Does, OnRows}
use Rattle.sqlite.specs.Rows.{Written, Task}
use Rattle.sqlite.specs.Tree.{Trees}
use Rattle.sqlite_trees.specs.Tree.{put_row}
use Rattle.sqlite.specs.Effect.{Database, value_rows}
use Rattle.sqlite.specs.State.{State, mode_of, Shows, Executes}
use Rattle.sqlite.specs.Listing.{understood}
use Rattle.sqlite.proofs.Callers.{statement_of, runs_as, one_step}
use Rattle.sqlite_rules.specs.Edit.{next_rowid, are_fresh, put_all, numbered, taken_by}
use Rattle.sqlite_rules.specs.Action.{works}
use Rattle.sqlite_schema.specs.Rules.{Keeps}
use Rattle.sqlite_schema.specs.declared.schema.Column.{Column}
use Rattle.sqlite_schema.specs.declared.schema.Constraint.TheVariants.{Unique}
use Rattle.sqlite_schema.specs.declared.schema.Keys.TheVariants.{Enforced}
use Rattle.sqlite_value.specs.declared.keys.Order.{Order}
use Rattle.sql_statements.specs.PlainTable.{table_at}
use Rattle.sql_statements.specs.StoredRows.{Form, whole, keyed, is_keyed, parameters_of, new_row, row_of, Stores}
use Rattle.sql_statements.specs.Statements.{rows_shown, IsInsert}
use Rattle.sql_statements.proofs.ValueRows.{values_are}
use Rattle.sql_statements.proofs.StoredRows.{puts_store}

-- a part that gave a value did not stop on the way
pub went : {B E R : Type 0} {b : B} {Stops : E → Type 0} → ((stop : E) × Stops stop × (Ok b ≡ Err stop)) ⊎ R → R
went (inl stopped) = absurd (let e = stopped.2 in cc)
went (inr on) = on

pub same_value : {B E : Type 0} {a b : B} → ◌≡◌ {A = Result B E} (Ok a) (Ok b) → a ≡ b
same_value e = cc

-- the table's tree is the next one, and each other table's is as it was
pub record Changes (schema : Schema) (table : Table) (old new : State) : Type 0 where
  pub schema_is : new.now.schema ≡ schema
  pub others : AllByRecursion (λ t. t.tree ≢ table.tree → new.now.trees t.tree ≡ old.now.trees t.tree) schema.tables
  pub shown : Shows old new new.now (cond old.in_transaction old.committed new.now) old.in_transaction

-- the new rows, each under its key or under the rowid that the table chooses
numbered_are : {X : Type 0} (form : Form X) (ys : List X) (rows : List Row)
    → (news : List (ℤ × X)) × (numbered Chosen rows (map (new_row form) ys) ≡ map (row_of form) news) × (map (λ (r : ℤ × X). r.1) news ≡ ys)
numbered_are form [] rows = ([], refl, refl)
numbered_are (whole columns) (y ∷ ys) rows =
    let i = next_rowid rows in
    let row = row_of (whole columns) (i, y) in
    let more = numbered_are (whole columns) ys (put_row row rows) in
    ((i, y) ∷ more.0, ap (λ l. row ∷ l) more.1, ap (λ l. y ∷ l) more.2)
numbered_are (keyed key others) (y ∷ ys) rows =
    let row = row_of (keyed key others) (key y, y) in
    let more = numbered_are (keyed key others) ys (put_row row rows) in
    ((key y, y) ∷ more.0, ap (λ l. row ∷ l) more.1, ap (λ l. y ∷ l) more.2)

module _ {X : Type 0} (form : Form X) where
  stores_insert_all : (rows next : List Row) (xs ys : List X) → Stores form rows xs → let news = numbered Chosen rows (map (new_row form) ys) in are_fresh rows news ≡ true → next ≡ put_all rows news → Stores form next (ys ++ xs)
  stores_insert_all rows next xs ys h fresh is =
      let named = numbered_are form ys rows in
      let values = λ (r : ℤ × X). r.1 in
      let put = puts_store form named.0 h.numbered (subst (λ l. are_fresh l (map (row_of form) named.0) ≡ true) h.are (subst (λ n. are_fresh rows n ≡ true) named.1 fresh)) h.rise in
      record {
        numbered = put.0;
        are = is ∙ ap (put_all rows) named.1 ∙ ap (λ l. put_all l (map (row_of form) named.0)) h.are ∙ put.1;
        rise = put.2;
        same = IsPermutation-trans _ _ _ (IsPermutation-sym _ _ (IsPermutation-map values _ _ put.3))
            (subst (λ l. IsPermutation l (ys ++ xs)) (sym (map-append values named.0 h.numbered))
            (subst (λ l. IsPermutation (l ++ map values h.numbered) (ys ++ xs)) (sym named.2) (IsPermutation-append_right ys _ _ h.same)));
      }

module _ {X : Type 0} (form : Form X) (schema : Schema) (at tree : ℕ) (name : List ℕ) (columns : List Column) (primary : List ℕ) (uniques : List (List ℕ)) (orders : List Order) where
  abbrev table : Table
  table = table_at (is_keyed form) tree name columns primary uniques orders

  module _ (sql : List ℕ) (rows : ℕ) (is : IsInsert schema sql at (is_keyed form) table rows) (listed : slice_get schema.tables at ≡ Some table)
      (quiet : (olds news : List Row) → works schema Enforced 0 tree olds news ≡ [])
      (whole : length (rows_shown (is_keyed form) (length columns) 0 rows) / suc (length columns) ≡ rows)
      (wide : (y : X) → length (parameters_of form y) ≡ length columns)
      (suits : (y : X) → cast_row table (new_row form y) ≡ new_row form y) where
    abbrev terms : List Term
    terms = rows_shown (is_keyed form) (length columns) 0 rows

    cast_are : (ys : List X) → map (λ s. cast_row table (drop 0 s)) (map (new_row form) ys) ≡ map (new_row form) ys
    cast_are [] = refl
    cast_are (y ∷ ys) = ap₂ (λ r l. r ∷ l) (suits y) (cast_are ys)

    -- The table has these values more. All are in, or the statement is refused.
    pub inserted : (ys : List X) → length ys ≡ rows → (old new : State) (count : ℕ) → old.now.schema ≡ schema → (xs : List X) → Stores form (old.now.trees tree) xs
        → Executes sql (flat_map (parameters_of form) ys) old new (Ok count) → Changes schema table old new × Stores form (new.now.trees tree) (ys ++ xs)
    inserted ys many old new count has xs stored h =
        let params = flat_map (parameters_of form) ys in
        let db = old.now.trees in
        let command = Insert at (Values terms (suc (length columns))) in
        let w = runs_as sql params old new schema has command is.is is.plain count h in
        let text = statement_of sql (understood schema sql) in
        let all = subst (λ s. Does old.step_limit (mode_of old) params (record old.now { schema = s }) text None command (Ok (w.tally, new.now))) has w.changed in
        let task : Task = record { limit = old.step_limit; keys = Enforced; schema = schema; table = table; params = params } in
        let rows : OnRows task (mode_of old) None command db (Ok (w.tally, new.now)) = rw listed at all in
        let done = went rows in
        let now = ap (λ (p : Tally × Database). p.1) (same_value (went (went done.2).2).2) in
        let given = went done.1 in
        let rest = went given.2 in
        let written = went rest.2 in
        let counted = went written.2 in
        let trees : done.0.trees ≡ written.0 = ap (λ (it : Written). it.trees) (same_value counted.2) ∙ same_value counted.1 in
        let edit = edit_of db table [] Chosen 0 given.0 in
        let step = one_step schema Enforced db written.0 edit (quiet (taken_by db edit) edit.news) written.1 in
        let shown : value_rows params (suc (length columns)) (length terms / suc (length columns)) terms ≡ map (new_row form) ys =
        ap (λ n. value_rows params (suc (length columns)) n terms) whole
        ∙ subst (λ n. value_rows params (suc (length columns)) n (rows_shown (is_keyed form) (length columns) 0 n) ≡ map (new_row form) ys) many (values_are form (length columns) wide ys []) in
        let found : given.0 ≡ map (new_row form) ys = given.1.1 ∙ ap (λ ps. value_rows ps (suc (length columns)) (length terms / suc (length columns)) terms) (append-nil params) ∙ shown in
        let news : edit.news ≡ numbered Chosen (db tree) (map (new_row form) ys) =
        ap (λ l. numbered Chosen (db tree) (map (λ s. cast_row table (drop 0 s)) l)) found ∙ ap (numbered Chosen (db tree)) (cast_are ys) in
        let trees_are : new.now.trees ≡ written.0 = ap (λ (d : Database). d.trees) now ∙ trees in
        let next : new.now.trees tree ≡ put_all (db tree) (numbered Chosen (db tree) (map (new_row form) ys)) = ap (λ (t : Trees). t tree) trees_are ∙ step.rows ∙ ap (put_all (db tree)) news in (
          record {
            schema_is = ap (λ (d : Database). d.schema) now;
            others = subst (λ (t : Trees). AllByRecursion (λ u. u.tree ≢ tree → t u.tree ≡ db u.tree) schema.tables) (sym trees_are) step.tables;
            shown = w.shown;
          },
          stores_insert_all form (db tree) _ xs ys stored (subst (λ l. are_fresh (db tree) l ≡ true) news step.fresh) next,
        )

-- the rules hold after the statement
pub insert_rules : (schema : Schema) (sql : List ℕ) (at : ℕ) (by_key : Bool) (table : Table) (rows : ℕ) → IsInsert schema sql at by_key table rows → (params : Row) (old new : State) (count : ℕ) → old.now.schema ≡ schema → new.now.schema ≡ schema
    → Executes sql params old new (Ok count) → Keeps Unique schema new.now.trees
insert_rules schema sql at by_key table rows is params old new count has after h =
    let w = runs_as sql params old new schema has (Insert at (Values (rows_shown by_key (length table.columns) 0 rows) (suc (length table.columns)))) is.is is.plain count h in
    subst (λ s. Keeps Unique s new.now.trees) after (w.sound.obeys.rules Unique)

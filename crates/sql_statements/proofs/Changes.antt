-- What an UPDATE or a DELETE of one plain table leaves.
use Rattle.std.proofs.Common.{◌≡◌, ◌≢◌, ℕ, ℤ, Bool, true, false, cond, List, [], ◌∷◌, map, filter, length, drop, slice_get, Some, None, Option, unwrap_or, Ok, refl, sym, ap, ◌∙◌, subst, IsPermutation, true≢false}
use Rattle.std.specs.List.{AllByRecursion, list_all}
use Rattle.std.proofs.lemmas.Bool.{eqb-true}
use Rattle.sqlite.specs.declared.types.Value.TheVariants.{Null, Int}
use Rattle.sqlite.specs.Order.{Row}
use Rattle.sqlite.specs.Term.{Term, col}
use Rattle.sqlite_sql.specs.Term.{holds, eval_all}
use Rattle.sqlite_sql.specs.Query.{Query, Output, output, IsAnswer}
use Rattle.sqlite_sql.specs.Program.{overlay, IsProgramAnswer}
use Rattle.sqlite.specs.Table.{Table}
use Rattle.sqlite.specs.Schema.{Schema}
use Rattle.sqlite_schema.specs.declared.command.Command.{Command}
use Rattle.sqlite_schema.specs.declared.command.Command.TheVariants.{Update, Delete}
use Rattle.sqlite_schema.specs.declared.program.Program.{Program}
use Rattle.sqlite_schema.specs.declared.schema.Column.{Column}
use Rattle.sqlite_value.specs.declared.keys.Order.{Order}
use Rattle.sqlite.specs.Edit.{edit_of}
use Rattle.sqlite.specs.Cast.{cast_row}
use Rattle.sqlite.specs.Rowids.TheVariants.{Given}
use Rattle.sqlite.specs.Does.{Tally, Does, OnRows}
use Rattle.sqlite.specs.Rows.{Written, Updates}
use Rattle.std.proofs.lemmas.List.{length-map}
use Rattle.std.proofs.lemmas.List.Sorted.{length_permutation}
use Rattle.sqlite.specs.Tree.{Trees}
use Rattle.sqlite_trees.specs.Tree.{put_row}
use Rattle.sqlite.specs.Effect.{Database}
use Rattle.sqlite.specs.State.{State, mode_of, Shows, Executes, Runs}
use Rattle.sqlite.specs.Listing.{understood}
use Rattle.sqlite.proofs.Callers.{statement_of, command_of, runs_as, one_step}
use Rattle.sqlite_rules.specs.Edit.{are_fresh, put_all, without_all, numbered, taken_by}
use Rattle.sqlite_rules.specs.Calls.{ids_of}
use Rattle.sqlite_rules.specs.Action.{works}
use Rattle.sqlite_schema.specs.declared.schema.Keys.TheVariants.{Enforced}
use Rattle.sqlite_keyed.specs.Lists.{delete_where, update_where}
use Rattle.sqlite_keyed.proofs.ListLemmas.{map-map, filter-map, IsPermutation-filter}
use Rattle.sql_statements.specs.StoredRows.{Form, whole, is_keyed, rowid_of, row_of, Stores}
use Rattle.sql_statements.specs.Statements.{IsUpdate, IsDelete, query_from, plain_query, HasNoLets, is_update, is_delete}
use Rattle.sql_statements.specs.PlainTable.{table_at}
use Rattle.sql_statements.proofs.StoredRows.{stores_edit, stores_update, unmapped}
use Rattle.sql_statements.proofs.Selects.{overlay_none, passing}
use Rattle.sql_statements.proofs.Inserts.{went, same_value, Changes}

given_news : (news rows : List Row) → numbered Given rows news ≡ news
given_news [] rows = refl
given_news (r ∷ news) rows = ap (λ l. r ∷ l) (given_news news (put_row r rows))

module _ {X : Type 0} (form : Form X) (tree : ℕ) (tests shown : List Term) (params : Row) (p : ℤ × X → Bool) (full : ℤ × X → Row)
    (tested : (i : ℤ) (x : X) → list_all (holds (params ∷ row_of form (i, x) ∷ [])) tests ≡ p (i, x))
    (shows : (i : ℤ) (x : X) → p (i, x) ≡ true → eval_all shown (params ∷ row_of form (i, x) ∷ []) ≡ full (i, x)) where
  abbrev picked_query : Query
  picked_query = query_from tree tests shown []

  abbrev out : ℤ × X → Output
  out r = ([], full r)

  abbrev shown_of : List (ℤ × X) → List Output
  shown_of rs = map (output picked_query) (map (λ r. params ∷ row_of form r ∷ []) rs)

  outputs_are : (ps : List (ℤ × X)) → shown_of (filter p ps) ≡ map out (filter p ps)
  outputs_are [] = refl
  outputs_are (r ∷ ps) = go (p r) refl (outputs_are ps)
    where
      go : (b : Bool) → p r ≡ b → shown_of (filter p ps) ≡ map out (filter p ps) → shown_of (cond b (r ∷ filter p ps) (filter p ps)) ≡ map out (cond b (r ∷ filter p ps) (filter p ps))
      go true e more = rw (shows r.0 r.1 e, more) refl
      go false e more = more

  -- the rows that pass, in some order
  pub picked : (db : Trees) (ps : List (ℤ × X)) → db tree ≡ map (row_of form) ps → (rows : List Row) → IsAnswer picked_query db params rows
      → (sel : List (ℤ × X)) × (rows ≡ map full sel) × IsPermutation (filter p ps) sel
  picked db ps are rows a =
      let kept : a.kept ≡ map out (filter p ps) =
      a.distinct ∙ ap (map (output picked_query)) (a.grouped ∙ passing form tree tests params p tested db ps are) ∙ outputs_are ps in
      let found = unmapped out _ a.ordered (subst (λ l. IsPermutation l a.ordered) kept a.same) in
      (found.0, a.shown ∙ ap (map (λ (o : Output). o.1)) found.1 ∙ map-map (λ (o : Output). o.1) out _, found.2)

  pub picked_in : (c : Command) (q : Program) (db : Trees) (ps : List (ℤ × X)) → db tree ≡ map (row_of form) ps → q.body ≡ picked_query → Rattle.sqlite_schema.specs.Program.lets_of q ≡ []
      → (rows : List Row) → IsProgramAnswer (Rattle.sqlite_schema.specs.Program.lets_of q) q.body db params rows → (sel : List (ℤ × X)) × (rows ≡ map full sel) × IsPermutation (filter p ps) sel
  picked_in c q db ps are body none rows got =
      picked (overlay db []) ps (overlay_none db tree ∙ are) rows (subst (λ b. IsAnswer b (overlay db []) params rows) body ((subst (λ l. IsProgramAnswer l q.body db params rows) none got) Null))

some_is : {A : Type 0} (a b : A) → Some a ≡ Some b → a ≡ b
some_is a b e = cc

-- An UPDATE of the rows that pass, as a statement or as a part of an upsert. Its WHERE may read the rowid, and what it sets
-- is told of the rows alone that pass, as sums are, which have to fit.
module _ {X : Type 0} (encode : X → Row) (schema : Schema) (tree : ℕ) (name : List ℕ) (columns : List Column) (primary : List ℕ) (uniques : List (List ℕ)) (orders : List Order)
    (tests sets : List Term) (quiet : (olds news : List Row) → works schema Enforced 0 tree olds news ≡ [])
    (given : Row) (p : X → Bool) (f : X → X) (at_id : ℤ × X → Bool)
    (tested : (i : ℤ) (x : X) → list_all (holds (given ∷ row_of (whole encode) (i, x) ∷ [])) tests ≡ at_id (i, x))
    (made : (i : ℤ) (x : X) → at_id (i, x) ≡ true → eval_all sets (given ∷ row_of (whole encode) (i, x) ∷ []) ≡ encode (f x))
    (suits : (i : ℤ) (x : X) → cast_row (table_at false tree name columns primary uniques orders) (row_of (whole encode) (i, x)) ≡ row_of (whole encode) (i, x)) where
  abbrev its_table : Table
  its_table = table_at false tree name columns primary uniques orders

  abbrev full : ℤ × X → Row
  full r = Int r.0 ∷ Int r.0 ∷ encode (f r.1)

  abbrev moved : ℤ × X → ℤ × X
  moved r = (r.0, f r.1)

  news_are : (sel : List (ℤ × X)) → map (λ s. cast_row its_table (drop 1 s)) (map full sel) ≡ map (row_of (whole encode)) (map moved sel)
  news_are [] = refl
  news_are (r ∷ sel) = rw (suits r.0 (f r.1), news_are sel) refl

  pub update_part : (limit : Option ℕ) (own : Row) (q : Program) (db : Trees) (w : Written) → q.body ≡ query_from tree tests (col 1 0 ∷ col 1 0 ∷ sets) [] → Rattle.sqlite_schema.specs.Program.lets_of q ≡ []
      → (xs : List X) (stored : Stores (whole encode) (db tree) xs) → filter (λ r. p r.1) stored.numbered ≡ filter at_id stored.numbered
      → Updates (record { limit = limit; keys = Enforced; schema = schema; table = its_table; params = own }) q given db (Ok w)
      → Stores (whole encode) (w.trees tree) (update_where p f xs) × AllByRecursion (λ u. u.tree ≢ tree → w.trees u.tree ≡ db u.tree) schema.tables × (length w.rows ≡ length (filter p xs))
  update_part limit own q db w body none xs stored same part =
      let answer = went part in
      let written = went answer.2 in
      let w_is = same_value written.2 in
      let trees : w.trees ≡ written.0 = ap (λ (it : Written). it.trees) w_is in
      let edit = edit_of db its_table (ids_of answer.0) Given 1 answer.0 in
      let step = one_step schema Enforced db written.0 edit (quiet (taken_by db edit) edit.news) written.1 in
      let sel = picked_in (whole encode) tree tests (col 1 0 ∷ col 1 0 ∷ sets) given at_id full tested (λ i x passes. ap (λ l. Int i ∷ Int i ∷ l) (made i x passes)) (Update 0 q) q db stored.numbered stored.are body none answer.0 answer.1.answer in
      let gone : edit.gone ≡ map (λ (r : ℤ × X). r.0) sel.0 = ap ids_of sel.1 ∙ map-map _ full sel.0 in
      let news : edit.news ≡ map (row_of (whole encode)) (map moved sel.0) = given_news _ _ ∙ ap (map (λ s. cast_row its_table (drop 1 s))) sel.1 ∙ news_are sel.0 in
      let fresh = subst (λ n. are_fresh (without_all (db tree) (map (λ (r : ℤ × X). r.0) sel.0)) n ≡ true) news (subst (λ g. are_fresh (without_all (db tree) g) edit.news ≡ true) gone step.fresh) in
      let next = ap (λ (t : Trees). t tree) trees ∙ step.rows ∙ ap (λ g. put_all (without_all (db tree) g) edit.news) gone ∙ ap (put_all (without_all (db tree) (map (λ (r : ℤ × X). r.0) sel.0))) news in
      let chosen = subst (λ l. IsPermutation l sel.0) (sym same) sel.2 in
      let values = λ (r : ℤ × X). r.1 in
      let many : length sel.0 ≡ length (filter p xs) =
      length_permutation _ _ chosen ∙ sym (length-map _ values) ∙ ap length (sym (filter-map p values stored.numbered)) ∙ sym (length_permutation _ _ (IsPermutation-filter p _ _ stored.same)) in (
        stores_update (whole encode) (db tree) _ xs p f stored sel.0 chosen fresh next,
        subst (λ (t : Trees). AllByRecursion (λ u. u.tree ≢ tree → t u.tree ≡ db u.tree) schema.tables) (sym trees) step.tables,
        ap (λ (it : Written). length it.rows) w_is ∙ ap length news ∙ length-map (map moved sel.0) (row_of (whole encode)) ∙ length-map sel.0 moved ∙ many,
      )

module _ {X : Type 0} (encode : X → Row) (schema : Schema) (at tree : ℕ) (name : List ℕ) (columns : List Column) (primary : List ℕ) (uniques : List (List ℕ)) (orders : List Order) where
  abbrev table : Table
  table = table_at false tree name columns primary uniques orders

  module _ (sql : List ℕ) (tests sets : List Term) (is : IsUpdate schema sql at tree tests sets) (listed : slice_get schema.tables at ≡ Some table)
      (quiet : (olds news : List Row) → works schema Enforced 0 tree olds news ≡ [])
      (params : Row) (p : X → Bool) (f : X → X)
      (tested : (i : ℤ) (x : X) → list_all (holds (params ∷ row_of (whole encode) (i, x) ∷ [])) tests ≡ p x)
      (made : (i : ℤ) (x : X) → p x ≡ true → eval_all sets (params ∷ row_of (whole encode) (i, x) ∷ []) ≡ encode (f x))
      (suits : (i : ℤ) (x : X) → cast_row table (row_of (whole encode) (i, x)) ≡ row_of (whole encode) (i, x)) where
    on_rows : (old new : State) (tally : Tally) (q : Program) → q.body ≡ query_from tree tests (col 1 0 ∷ col 1 0 ∷ sets) [] → Rattle.sqlite_schema.specs.Program.lets_of q ≡ []
        → (xs : List X) → Stores (whole encode) (old.now.trees tree) xs
        → OnRows (record { limit = old.step_limit; keys = Enforced; schema = schema; table = table; params = params }) (mode_of old) None (Update at q) old.now.trees (Ok (tally, new.now))
        → Shows old new new.now (cond old.in_transaction old.committed new.now) old.in_transaction
        → Changes schema table old new × Stores (whole encode) (new.now.trees tree) (update_where p f xs) × (unwrap_or tally.rows 0 ≡ length (filter p xs))
    on_rows old new tally q body none xs stored rows shown =
        let db = old.now.trees in
        let done = went rows in
        let both = same_value (went (went done.2).2).2 in
        let now = ap (λ (t : Tally × Database). t.1) both in
        let part = update_part encode schema tree name columns primary uniques orders tests sets quiet params p f (λ r. p r.1) tested made suits old.step_limit params q db done.0 body none xs stored refl done.1 in
        let trees_are : new.now.trees ≡ done.0.trees = ap (λ (d : Database). d.trees) now in (
          record {
            schema_is = ap (λ (d : Database). d.schema) now;
            others = subst (λ (t : Trees). AllByRecursion (λ u. u.tree ≢ tree → t u.tree ≡ db u.tree) schema.tables) (sym trees_are) part.1;
            shown = shown;
          },
          subst (λ (t : Trees). Stores (whole encode) (t tree) (update_where p f xs)) (sym trees_are) part.0,
          ap (λ (t : Tally × Database). unwrap_or t.0.rows 0) both ∙ part.2,
        )

    -- the count is that of the rows that pass
    pub updated_counted : (old new : State) (count : ℕ) → old.now.schema ≡ schema → (xs : List X) → Stores (whole encode) (old.now.trees tree) xs → Executes sql params old new (Ok count)
        → Changes schema table old new × Stores (whole encode) (new.now.trees tree) (update_where p f xs) × (count ≡ length (filter p xs))
    updated_counted old new count has xs stored h =
        run (command_of (understood schema sql)) is.updates is.body is.alone (runs_as sql params old new schema has (command_of (understood schema sql)) refl is.plain count h)
      where
        run : (c : Command) → is_update at c ≡ true → plain_query c ≡ Some (query_from tree tests (col 1 0 ∷ col 1 0 ∷ sets) []) → HasNoLets c
            → Runs old new None c (statement_of sql (understood schema sql)) params count → Changes schema table old new × Stores (whole encode) (new.now.trees tree) (update_where p f xs) × (count ≡ length (filter p xs))
        run (Update place q) picks body none w =
            let text = statement_of sql (understood schema sql) in
            let all = subst (λ s. Does old.step_limit (mode_of old) params (record old.now { schema = s }) text None (Update place q) (Ok (w.tally, new.now))) has w.changed in
            let here : place ≡ at = sym (eqb-true at place picks) in
            let listed_here : slice_get schema.tables place ≡ Some table = rw here listed in
            let it = on_rows old new w.tally q (some_is _ _ body) none xs stored (rw listed_here at all) w.shown in
            (it.0, it.1, w.counted ∙ it.2)
        run _ picks body none w = absurd (true≢false (sym picks))

    pub updated : (old new : State) (count : ℕ) → old.now.schema ≡ schema → (xs : List X) → Stores (whole encode) (old.now.trees tree) xs → Executes sql params old new (Ok count)
        → Changes schema table old new × Stores (whole encode) (new.now.trees tree) (update_where p f xs)
    updated old new count has xs stored h = let it = updated_counted old new count has xs stored h in (it.0, it.1)

module _ {X : Type 0} (form : Form X) (schema : Schema) (at tree : ℕ) (name : List ℕ) (columns : List Column) (primary : List ℕ) (uniques : List (List ℕ)) (orders : List Order) where
  abbrev deleted_from : Table
  deleted_from = table_at (is_keyed form) tree name columns primary uniques orders

  module _ (sql : List ℕ) (tests : List Term) (is : IsDelete schema sql at tree tests) (listed : slice_get schema.tables at ≡ Some deleted_from)
      (quiet : (olds news : List Row) → works schema Enforced 0 tree olds news ≡ [])
      (params : Row) (p : X → Bool)
      (tested : (i : ℤ) (x : X) → list_all (holds (params ∷ row_of form (i, x) ∷ [])) tests ≡ p x) where
    abbrev name_of : ℤ × X → Row
    name_of r = Int (rowid_of form r) ∷ []

    rows_deleted : (old new : State) (tally : Tally) (q : Program) → q.body ≡ query_from tree tests (col 1 0 ∷ []) [] → Rattle.sqlite_schema.specs.Program.lets_of q ≡ []
        → (xs : List X) → Stores form (old.now.trees tree) xs
        → OnRows (record { limit = old.step_limit; keys = Enforced; schema = schema; table = deleted_from; params = params }) (mode_of old) None (Delete at q) old.now.trees (Ok (tally, new.now))
        → Shows old new new.now (cond old.in_transaction old.committed new.now) old.in_transaction
        → Changes schema deleted_from old new × Stores form (new.now.trees tree) (delete_where p xs)
    rows_deleted old new tally q body none xs stored rows shown =
        let db = old.now.trees in
        let done = went rows in
        let now = ap (λ (t : Tally × Database). t.1) (same_value (went (went done.2).2).2) in
        let answer = went done.1 in
        let written = went answer.2 in
        let trees : done.0.trees ≡ written.0 = ap (λ (it : Written). it.trees) (same_value written.2) in
        let edit = edit_of db deleted_from (ids_of answer.0) Given 0 [] in
        let step = one_step schema Enforced db written.0 edit (quiet (taken_by db edit) edit.news) written.1 in
        let sel = picked_in form tree tests (col 1 0 ∷ []) params (λ r. p r.1) name_of tested (λ i x _. refl) (Delete at q) q db stored.numbered stored.are body none answer.0 answer.1.answer in
        let gone : edit.gone ≡ map (rowid_of form) sel.0 = ap ids_of sel.1 ∙ map-map _ name_of sel.0 in
        let trees_are : new.now.trees ≡ written.0 = ap (λ (d : Database). d.trees) now ∙ trees in
        let next = ap (λ (t : Trees). t tree) trees_are ∙ step.rows ∙ ap (λ g. put_all (without_all (db tree) g) []) gone in (
          record {
            schema_is = ap (λ (d : Database). d.schema) now;
            others = subst (λ (t : Trees). AllByRecursion (λ u. u.tree ≢ tree → t u.tree ≡ db u.tree) schema.tables) (sym trees_are) step.tables;
            shown = shown;
          },
          stores_edit form (db tree) _ xs p stored sel.0 [] sel.2 refl next,
        )

    pub deleted : (old new : State) (count : ℕ) → old.now.schema ≡ schema → (xs : List X) → Stores form (old.now.trees tree) xs → Executes sql params old new (Ok count)
        → Changes schema deleted_from old new × Stores form (new.now.trees tree) (delete_where p xs)
    deleted old new count has xs stored h =
        run (command_of (understood schema sql)) is.deletes is.body is.alone (runs_as sql params old new schema has (command_of (understood schema sql)) refl is.plain count h)
      where
        run : (c : Command) → is_delete at c ≡ true → plain_query c ≡ Some (query_from tree tests (col 1 0 ∷ []) []) → HasNoLets c
            → Runs old new None c (statement_of sql (understood schema sql)) params count → Changes schema deleted_from old new × Stores form (new.now.trees tree) (delete_where p xs)
        run (Delete place q) picks body none w =
            let text = statement_of sql (understood schema sql) in
            let all = subst (λ s. Does old.step_limit (mode_of old) params (record old.now { schema = s }) text None (Delete place q) (Ok (w.tally, new.now))) has w.changed in
            let here : place ≡ at = sym (eqb-true at place picks) in
            let listed_here : slice_get schema.tables place ≡ Some deleted_from = rw here listed in
            rows_deleted old new w.tally q (some_is _ _ body) none xs stored (rw listed_here at all) w.shown
        run _ picks body none w = absurd (true≢false (sym picks))

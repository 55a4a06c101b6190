-- What an INSERT .. ON CONFLICT .. DO UPDATE of one plain table leaves.
use Rattle.std.proofs.Common.{◌≡◌, ◌≢◌, ◌≤◌, ◌/◌, inl, inr, ℕ, ℤ, suc, Bool, true, false, List, [], ◌∷◌, ◌++◌, map, filter, length, slice_get, Some, None, Option, Ok, refl, sym, ap, ◌∙◌, subst, append-nil, arith, int_eq, if◌then◌else◌}
use Rattle.std.specs.List.{AllByRecursion, list_any, list_all}
use Rattle.std.proofs.lemmas.Int.{ints}
use Rattle.std.proofs.lemmas.Bool.{cases_Bool}
use Rattle.std.proofs.lemmas.List.Sorted.{length_permutation, list_any-IsPermutation}
use Rattle.sqlite.specs.declared.types.Value.TheVariants.{Null, Int}
use Rattle.sqlite_value.specs.declared.keys.Collation.TheVariants.{Binary}
use Rattle.sqlite.specs.Order.{Row}
use Rattle.sqlite.specs.Term.{Term, lit, col, op2}
use Rattle.sqlite_sql.specs.Term.{holds, eval_all}
use Rattle.sqlite_sql.specs.declared.ops.BinaryOp.TheVariants.{Compare}
use Rattle.sqlite_sql.specs.declared.ops.CompareOp.TheVariants.{Eq}
use Rattle.sqlite.specs.Table.{Table}
use Rattle.sqlite.specs.Schema.{Schema}
use Rattle.sqlite.specs.Source.TheVariants.{Values}
use Rattle.sqlite.specs.Command.TheVariants.{InsertOr}
use Rattle.sqlite_schema.specs.declared.command.Conflict.TheVariants.{Abort}
use Rattle.sqlite_schema.specs.declared.command.Upsert.{Upsert}
use Rattle.sqlite_schema.specs.declared.schema.Column.{Column}
use Rattle.sqlite_schema.specs.declared.schema.Keys.TheVariants.{Enforced}
use Rattle.sqlite_value.specs.declared.keys.Order.{Order}
use Rattle.sqlite_rules.specs.declared.error.Refusal.{Refusal}
use Rattle.sqlite_rules.specs.Lists.{Has}
use Rattle.sqlite_rules.specs.Keys.{conflicts, AreConflicts}
use Rattle.sqlite_rules.specs.Edit.{next_rowid, are_fresh, put_all, taken_by}
use Rattle.sqlite_rules.specs.Action.{works}
use Rattle.sqlite_rules.proofs.ListLemmas.{all_has, has_kept, some_from}
use Rattle.sqlite.specs.Edit.{edit_of, edited}
use Rattle.sqlite.specs.Cast.{cast_row}
use Rattle.sqlite.specs.Rowids.TheVariants.{Chosen, Given}
use Rattle.sqlite.specs.Does.{Tally, Does, OnRows}
use Rattle.sqlite.specs.Rows.{Written, Task, Updates, TriesEach, Tries, Upserts, Judged, Puts, Clears, Meets, nothing, shown}
use Rattle.sqlite.specs.Tree.{Trees}
use Rattle.sqlite.specs.Effect.{Database, value_rows}
use Rattle.sqlite.specs.State.{State, mode_of, Executes}
use Rattle.sqlite.specs.Listing.{understood}
use Rattle.sqlite.proofs.Callers.{statement_of, runs_as, one_step}
use Rattle.sqlite_keyed.specs.Keyed.{IsKeyedBy}
use Rattle.sqlite_keyed.specs.Lists.{update_where}
use Rattle.sqlite_keyed.proofs.KeyedLemmas.{int_eq_apart}
use Rattle.sqlite_keyed.proofs.ListLemmas.{all_weaker, filter_none, filter-map, IsPermutation-filter, any_from_none}
use Rattle.sql_statements.specs.PlainTable.{table_at}
use Rattle.sql_statements.specs.StoredRows.{whole, row_of, Stores}
use Rattle.sql_statements.specs.Statements.{IsUpsert, params_from}
use Rattle.sql_statements.proofs.StoredRows.{stores_insert}
use Rattle.sql_statements.proofs.Inserts.{went, same_value, Changes}
use Rattle.sql_statements.proofs.Changes.{update_part}

same_id : (a : ℤ) → int_eq a a ≡ true
same_id a = grind (arith, ints)

module _ {X : Type 0} (p : X → Bool) where
  abbrev pub passes : ℤ × X → Bool
  passes r = p r.1

  none_left : (qs : List (ℤ × X)) (q : ℤ × X) → length (q ∷ filter passes qs) ≤ 1 → filter passes qs ≡ []
  none_left qs q few = go (filter passes qs) few
    where
      go : (l : List (ℤ × X)) → length (q ∷ l) ≤ 1 → l ≡ []
      go [] h = refl
      go (z ∷ l) h = absurd (omega arith)

  -- a row that passes, where one at most does, is told by its rowid
  only_one : (ps : List (ℤ × X)) (j : ℤ) (y : X) → IsKeyedBy (λ (r : ℤ × X). r.0) ps → Has ps (j, y) → p y ≡ true → length (filter passes ps) ≤ 1 → filter passes ps ≡ filter (λ r. int_eq r.0 j) ps
  only_one [] j y up has ok few = absurd has
  only_one (q ∷ qs) j y up (inl first) ok few =
      let j_is : j ≡ q.0 = ap (λ (r : ℤ × X). r.0) first in
      let here : p q.1 ≡ true = ap (λ (r : ℤ × X). p r.1) (sym first) ∙ ok in
      let same : int_eq q.0 j ≡ true = ap (int_eq q.0) j_is ∙ same_id q.0 in
      let later : filter (λ r. int_eq r.0 j) qs ≡ [] = filter_none (λ (r : ℤ × X). int_eq r.0 j) qs (all_weaker _ _ (λ (z : ℤ × X) h. int_eq_apart z.0 j (λ e. omega (arith, ints, h, e, j_is))) qs up.0) in
      rw (here, same, later, none_left qs q (rw here at few)) refl
  only_one (q ∷ qs) j y up (inr later) ok few = go (p q.1) refl (only_one qs j y up.1 later ok)
    where
      go : (b : Bool) → p q.1 ≡ b → (length (filter passes qs) ≤ 1 → filter passes qs ≡ filter (λ r. int_eq r.0 j) qs) → filter passes (q ∷ qs) ≡ filter (λ r. int_eq r.0 j) (q ∷ qs)
      go true e more = absurd (subst (λ l. Has l (j, y)) (none_left qs q (rw e at few)) (has_kept passes qs (j, y) later ok))
      go false e more =
          let before = all_has _ qs (j, y) up.0 later in
          let apart : int_eq q.0 j ≡ false = int_eq_apart q.0 j (λ same. omega (arith, ints, before, same)) in
          rw (e, apart) (more (rw e at few))

  pub has_mapped : {Y : Type 0} (g : ℤ × X → Y) (ps : List (ℤ × X)) (y : Y) → Has (map g ps) y → (r : ℤ × X) × Has ps r × (y ≡ g r)
  has_mapped g [] y h = absurd h
  has_mapped g (q ∷ qs) y (inl e) = (q, inl refl, e)
  has_mapped g (q ∷ qs) y (inr h) = let more = has_mapped g qs y h in (more.0, inr more.1, more.2)

  pub has_image : {Y : Type 0} (g : ℤ × X → Y) (ps : List (ℤ × X)) (r : ℤ × X) → Has ps r → Has (map g ps) (g r)
  has_image g [] r h = absurd h
  has_image g (q ∷ qs) r (inl e) = inl (ap g e)
  has_image g (q ∷ qs) r (inr h) = inr (has_image g qs r h)

-- the values with this one, in place of the one that passes
abbrev pub put_or_update : {X : Type 0} → (X → Bool) → (X → X) → X → List X → List X
put_or_update p f x xs = if list_any p xs then update_where p f xs else x ∷ xs

module _ {X : Type 0} (encode : X → Row) (schema : Schema) (at tree : ℕ) (name : List ℕ) (columns : List Column) (primary : List ℕ) (uniques : List (List ℕ)) (orders : List Order) where
  abbrev table : Table
  table = table_at false tree name columns primary uniques orders

  abbrev terms : List Term
  terms = lit Null ∷ params_from 0 (length columns)

  module _ (sql target : List ℕ) (sets : List Term) (is : IsUpsert schema sql at tree table target sets) (listed : slice_get schema.tables at ≡ Some table)
      (quiet : (olds news : List Row) → works schema Enforced 0 tree olds news ≡ [])
      (x : X)
      (given : value_rows (encode x) (suc (length columns)) (length terms / suc (length columns)) terms ≡ (Null ∷ encode x) ∷ [])
      (suits : cast_row table (Null ∷ encode x) ≡ Null ∷ encode x)
      (kept : (i : ℤ) (y : X) → cast_row table (row_of (whole encode) (i, y)) ≡ row_of (whole encode) (i, y))
      (p : X → Bool) (f : X → X)
      (meets : (i j : ℤ) (y : X) → conflicts (Some target) schema.indexes table (row_of (whole encode) (j, x)) (row_of (whole encode) (i, y)) ≡ p y)
      (finds : (i j k : ℤ) (y : X) → list_all (holds ((encode x ++ Int j ∷ shown table (row_of (whole encode) (k, x))) ∷ row_of (whole encode) (i, y) ∷ [])) (op2 (Compare Eq Binary) (col 1 0) (col 0 (length columns)) ∷ []) ≡ int_eq i j)
      (made : (i j k : ℤ) (y : X) → eval_all sets ((encode x ++ Int j ∷ shown table (row_of (whole encode) (k, x))) ∷ row_of (whole encode) (i, y) ∷ []) ≡ encode (f y)) where
    abbrev task : Option ℕ → Task
    task limit = record { limit = limit; keys = Enforced; schema = schema; table = table; params = encode x }

    abbrev clause : Upsert
    clause = record { target = Some target; update = Some is.update }

    -- what one of the parts leaves
    record Left (db : Trees) (xs : List X) (w : Written) : Type 0 where
      pub stores : Stores (whole encode) (w.trees tree) (put_or_update p f x xs)
      pub others : AllByRecursion (λ u. u.tree ≢ tree → w.trees u.tree ≡ db u.tree) schema.tables

    module _ (limit : Option ℕ) (db : Trees) (xs : List X) (stored : Stores (whole encode) (db tree) xs) (few : length (filter p xs) ≤ 1) (one : Written) where
      abbrev new : Row
      new = row_of (whole encode) (next_rowid (db tree), x)

      abbrev values : List X
      values = map (λ (r : ℤ × X). r.1) stored.numbered

      any_is : list_any p values ≡ list_any p xs
      any_is = list_any-IsPermutation p _ _ stored.same

      -- no row has the key
      put : list_any p xs ≡ false → Puts (task limit) new db (Ok one) → Left db xs one
      put none part =
          let edit = edit_of db table [] Given 0 (new ∷ []) in
          let written = went part in
          let one_is = same_value written.2 in
          let step = one_step schema Enforced db written.0 edit (quiet (taken_by db edit) edit.news) written.1 in
          let news : edit.news ≡ new ∷ [] = ap (λ r. r ∷ []) (kept (next_rowid (db tree)) x) in
          let trees : one.trees ≡ written.0 = ap (λ (it : Written). it.trees) one_is in
          let next : one.trees tree ≡ put_all (db tree) (new ∷ []) = ap (λ (t : Trees). t tree) trees ∙ step.rows ∙ ap (put_all (db tree)) news in
          let stores = stores_insert (whole encode) (db tree) _ xs x stored (subst (λ l. are_fresh (db tree) l ≡ true) news step.fresh) next in
          record {
            stores = rw none stores;
            others = subst (λ (t : Trees). AllByRecursion (λ u. u.tree ≢ tree → t u.tree ≡ db u.tree) schema.tables) (sym trees) step.tables;
          }

      cleared : (found : List Row) → list_any p xs ≡ false → Clears (task limit) Abort new db found (Ok one) → Left db xs one
      cleared [] none part = put none part
      cleared (y ∷ more) none part = put none part

      -- a row has it
      set : (j : ℤ) (y : X) → Has stored.numbered (j, y) → p y ≡ true → Updates (task limit) is.update (encode x ++ Int j ∷ shown table new) db (Ok one) → Left db xs one
      set j y has ok part =
          let k = next_rowid (db tree) in
          let few_there : length (filter (passes p) stored.numbered) ≤ 1 =
          subst (λ n. n ≤ 1) (length_permutation _ _ (IsPermutation-filter p _ _ stored.same) ∙ ap length (filter-map p (λ (r : ℤ × X). r.1) stored.numbered) ∙ Rattle.std.proofs.lemmas.List.length-map (filter (passes p) stored.numbered) (λ (r : ℤ × X). r.1)) few in
          let same = only_one p stored.numbered j y stored.rise has ok few_there in
          let it = update_part encode schema tree name columns primary uniques orders (op2 (Compare Eq Binary) (col 1 0) (col 0 (length columns)) ∷ []) sets quiet (encode x ++ Int j ∷ shown table new) p f (λ r. int_eq r.0 j)
          (λ i z. finds i j k z) (λ i z _. made i j k z) kept limit (encode x) is.update db one is.body is.alone xs stored same part in
          let some : list_any p xs ≡ true = sym any_is ∙ some_from p values y (has_image p (λ (r : ℤ × X). r.1) stored.numbered (j, y) has) ok in
          record { stores = rw some it.0; others = it.1 }

      found_is : (found : List Row) → AreConflicts (Some target) schema.indexes table (db tree) new found → Meets (task limit) (Upserts (task limit) Abort new db []) new db clause found (Ok one) → Left db xs one
      found_is [] are part = cleared part.0 none part.2
        where
          none : list_any p xs ≡ false
          none = sym any_is ∙ any_from_none p values (Rattle.sqlite_rules.proofs.ListLemmas.all_from _ values (λ y has.
              let r = has_mapped p (λ (r : ℤ × X). r.1) stored.numbered y has in
              let there = subst (λ l. Has l (row_of (whole encode) r.0)) (sym stored.are) (has_image p (row_of (whole encode)) stored.numbered r.0 r.1) in
              elim (cases_Bool (p y)) [
                | inl ok ↦ absurd (are.complete (row_of (whole encode) r.0) there (meets r.0.0 (next_rowid (db tree)) r.0.1 ∙ ap p (sym r.2) ∙ ok))
                | inr fails ↦ fails
              ]))
      found_is (there ∷ more) are part =
          let sound = are.sound there (inl refl) in
          let r = has_mapped p (row_of (whole encode)) stored.numbered sound.0 (subst (λ l. Has l sound.0) stored.are sound.1) in
          let ok : p r.0.1 ≡ true = sym (meets r.0.0 (next_rowid (db tree)) r.0.1) ∙ ap (conflicts (Some target) schema.indexes table new) (sym r.2) ∙ sound.2 in
          let id : Rattle.sqlite_trees.specs.Tree.rowid there ≡ Int r.0.0 = ap Rattle.sqlite_trees.specs.Tree.rowid (sound.3 ∙ ap (λ row. Rattle.sqlite_trees.specs.Tree.rowid row ∷ []) r.2) in
          set r.0.0 r.0.1 r.1 ok (subst (λ v. Updates (task limit) is.update (encode x ++ v ∷ shown table new) db (Ok one)) id part)

      judged : (verdict : Option Refusal) → Judged (task limit) Abort (clause ∷ []) new db verdict (Ok one) → Left db xs one
      judged None part = found_is part.0 part.1 part.2
      judged (Some why) part = absurd (let e = part in cc)

      tried : Tries (task limit) Abort (clause ∷ []) new db (Ok one) → Left db xs one
      tried (inl h) = absurd (let e = h.1 in cc)
      tried (inr h) = judged h.0 h.2

    pub upserted : (old new : State) (count : ℕ) → old.now.schema ≡ schema → (xs : List X) → Stores (whole encode) (old.now.trees tree) xs → length (filter p xs) ≤ 1 → Executes sql (encode x) old new (Ok count)
        → Changes schema table old new × Stores (whole encode) (new.now.trees tree) (put_or_update p f x xs)
    upserted old new count has xs stored few h =
        let params = encode x in
        let db = old.now.trees in
        let command = InsertOr at Abort (Values terms (suc (length columns))) (clause ∷ []) in
        let w = runs_as sql params old new schema has command is.is is.plain count h in
        let text = statement_of sql (understood schema sql) in
        let all = subst (λ s. Does old.step_limit (mode_of old) params (record old.now { schema = s }) text None command (Ok (w.tally, new.now))) has w.changed in
        let rows : OnRows (task old.step_limit) (mode_of old) None command db (Ok (w.tally, new.now)) = rw listed at all in
        let done = went rows in
        let now = ap (λ (t : Tally × Database). t.1) (same_value (went (went done.2).2).2) in
        let source = went done.1 in
        let rest = went source.2 in
        let turned = went rest.2 in
        let counted = went turned.2 in
        let source_is : source.0 ≡ (Null ∷ params) ∷ [] = source.1.1 ∙ ap (λ ps. value_rows ps (suc (length columns)) (length terms / suc (length columns)) terms) (append-nil params) ∙ given in
        let turn = subst (λ l. TriesEach (task old.step_limit) Abort (clause ∷ []) l (Rattle.sqlite.specs.Rows.count_of rest.0) (nothing db) (Ok turned.0)) source_is turned.1 in
        let one = went turn in
        let left = tried old.step_limit db xs stored few one.0 (subst (λ r. Tries (task old.step_limit) Abort (clause ∷ []) (Rattle.sqlite_rules.specs.Edit.with_rowid Chosen (db tree) r) db (Ok one.0)) suits one.1) in
        let trees : new.now.trees ≡ one.0.trees =
        ap (λ (d : Database). d.trees) now ∙ ap (λ (it : Written). it.trees) (same_value counted.2) ∙ same_value counted.1 ∙ ap (λ (it : Written × ℤ). it.0.trees) (same_value one.2) in (
          record {
            schema_is = ap (λ (d : Database). d.schema) now;
            others = subst (λ (t : Trees). AllByRecursion (λ u. u.tree ≢ tree → t u.tree ≡ db u.tree) schema.tables) (sym trees) left.others;
            shown = w.shown;
          },
          subst (λ (t : Trees). Stores (whole encode) (t tree) (put_or_update p f x xs)) (sym trees) left.stores,
        )

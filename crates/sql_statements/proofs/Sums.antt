-- What a SELECT of the sum of a column answers.
use Rattle.std.proofs.Common.{◌≡◌, ℕ, ℤ, Bool, List, [], ◌∷◌, map, filter, Some, refl, sym, ap, ◌∙◌, subst}
use Rattle.std.proofs.lemmas.List.Sorted.{IsPermutation-map}
use Rattle.std.specs.List.{list_all}
use Rattle.sqlite_value.specs.Order.{Row}
use Rattle.sqlite_value.specs.declared.value.Value.TheVariants.{Int}
use Rattle.sqlite_trees.specs.Tree.{Trees}
use Rattle.sqlite_sql.specs.Term.{Term, holds, eval, col}
use Rattle.sqlite_sql.specs.Program.{overlay}
use Rattle.sqlite_sql.specs.Query.{IsAnswer}
use Rattle.sqlite_sql.proofs.AggregateLemmas.{int_sum, int_sum-permutation, present, sum_answer}
use Rattle.sqlite_schema.specs.declared.schema.Schema.{Schema}
use Rattle.sqlite_keyed.proofs.ListLemmas.{map-map, filter-map, IsPermutation-filter}
use Rattle.sqlite.specs.State.{State, Shown}
use Rattle.sql_statements.specs.StoredRows.{Form, row_of, Stores}
use Rattle.sql_statements.specs.Statements.{sum_query, IsSelect}
use Rattle.sql_statements.proofs.Selects.{overlay_none, passing, shown_answer}

all_present : {X : Type 0} (val : X → ℤ) (xs : List X) → present (map (λ x. Some (val x)) xs) ≡ map val xs
all_present val [] = refl
all_present val (x ∷ xs) = ap (λ l. val x ∷ l) (all_present val xs)

module _ {X : Type 0} (form : Form X) (tree : ℕ) (tests : List Term) (at : ℕ) (params : Row) (p : X → Bool) (val : X → ℤ)
    (tested : (i : ℤ) (x : X) → list_all (holds (params ∷ row_of form (i, x) ∷ [])) tests ≡ p x)
    (reads : (i : ℤ) (x : X) → eval (col 1 at) (params ∷ row_of form (i, x) ∷ []) ≡ Int (val x)) where
  answered : (db : Trees) (xs : List X) (rows : List Row) → Stores form (db tree) xs → IsAnswer (sum_query tree tests at) db params rows → rows ≡ (Int (int_sum (map val (filter p xs))) ∷ []) ∷ []
  answered db xs rows h a =
      let some : List (ℤ × X) = filter (λ (r : ℤ × X). p r.1) h.numbered in
      let sums : int_sum (map (λ (r : ℤ × X). val r.1) some) ≡ int_sum (map val (filter p xs)) =
      ap int_sum (sym (map-map val (λ (r : ℤ × X). r.1) some) ∙ ap (map val) (sym (filter-map p (λ (r : ℤ × X). r.1) h.numbered)))
      ∙ int_sum-permutation _ _ (IsPermutation-map val _ _ (IsPermutation-filter p _ _ h.same)) in
      sum_answer (sum_query tree tests at) db params (col 1 at) some (λ r. params ∷ row_of form r ∷ []) (λ (r : ℤ × X). Some (val r.1)) refl
      (passing form tree tests params (λ r. p r.1) (λ i x. tested i x) db h.numbered h.are) (λ r. reads r.0 r.1) rows refl refl a
      ∙ ap (λ n. (Int n ∷ []) ∷ []) (ap int_sum (all_present (λ (r : ℤ × X). val r.1) some) ∙ sums)

  -- the sum of the values that pass, in one row
  pub summed : (schema : Schema) (sql : List ℕ) → IsSelect schema sql (sum_query tree tests at) → (old new : State) → old.now.schema ≡ schema → (xs : List X) → Stores form (old.now.trees tree) xs
      → (rows : List Row) → Shown sql params old new rows → rows ≡ (Int (int_sum (map val (filter p xs))) ∷ []) ∷ []
  summed schema sql is old new has xs h rows seen =
      answered (overlay old.now.trees []) xs rows (subst (λ l. Stores form l xs) (sym (overlay_none old.now.trees tree)) h) (shown_answer schema sql (sum_query tree tests at) params is old new has rows seen)

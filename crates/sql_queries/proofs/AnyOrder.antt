-- A SELECT of one table of a desk shows the rows that pass, in whatever order ORDER BY leaves open.
use Rattle.std.proofs.Common.{◌≡◌, ℕ, ℤ, Bool, List, [], ◌∷◌, map, filter, refl, sym, ap, subst, ◌∙◌, IsPermutation}
use Rattle.std.specs.List.{list_all}
use Rattle.std.proofs.lemmas.List.Sorted.{IsPermutation-map, IsPermutation-sym, IsPermutation-trans}
use Rattle.sqlite.specs.State.{State, Shown}
use Rattle.sqlite_keyed.proofs.ListLemmas.{map-map, filter-map, IsPermutation-filter}
use Rattle.sqlite_sql.specs.Query.{Query, Output, output}
use Rattle.sqlite_sql.specs.Program.{overlay}
use Rattle.sqlite_sql.specs.Term.{Term, holds, eval_all}
use Rattle.sqlite_value.specs.declared.keys.Key.{Key}
use Rattle.sqlite_value.specs.Order.{Row}
use Rattle.sql_statements.proofs.Selects.{overlay_none, passing, shown_answer}
use Rattle.sql_statements.specs.Layouts.{Holds}
use Rattle.sql_statements.specs.Statements.{IsSelect, query_from}
use Rattle.sql_statements.specs.StoredRows.{row_of, Stores}
use Rattle.sql_tables.specs.Layout.{desk_layout}
use Rattle.sql_tables.specs.Schema.{desk_schema}
use Rattle.sql_tables.specs.Tables.{Tables}
use Rattle.sql_query_laws.proofs.Listings.{Listing}

module _ {X : Type 0} (of : Listing X) {Y : Type 0} (sql : List ℕ) (tests shown : List Term) (order : List (Term × Key)) (params : Row) (p : X → Bool) (f : X → Y) (show : Y → Row)
    (is : IsSelect desk_schema sql (query_from of.table.tree tests shown order))
    (tested : (i : ℤ) (x : X) → list_all (holds (params ∷ row_of of.stored_as (i, x) ∷ [])) tests ≡ p x)
    (shows : (i : ℤ) (x : X) → eval_all shown (params ∷ row_of of.stored_as (i, x) ∷ []) ≡ show (f x)) where
  abbrev q : Query
  q = query_from of.table.tree tests shown order

  abbrev row : X → Row
  row x = show (f x)

  rows_are : (rs : List (ℤ × X)) → map (λ (o : Output). o.1) (map (output q) (map (λ r. params ∷ row_of of.stored_as r ∷ []) rs)) ≡ map row (map (λ (r : ℤ × X). r.1) rs)
  rows_are [] = refl
  rows_are (r ∷ rs) = rw (shows r.0 r.1, rows_are rs) refl

  pub selected_in_any_order : (t : Tables) (old new : State) → Holds desk_layout old.now t → (rows : List Row) → Shown sql params old new rows → IsPermutation (map show (map f (filter p (of.records t)))) rows
  selected_in_any_order t old new h rows seen =
      let xs = of.records t in
      let table = of.stored old.now.trees t h.1 in
      let kept_in : Stores of.stored_as (overlay old.now.trees [] of.table.tree) xs = subst (λ l. Stores of.stored_as l xs) (sym (overlay_none old.now.trees of.table.tree)) table.stored in
      let all = map (λ (r : ℤ × X). r.1) kept_in.numbered in
      let a = shown_answer desk_schema sql q params is old new h.0 rows seen in
      let kept : map (λ (o : Output). o.1) a.kept ≡ map row (filter p all) =
      ap (map (λ (o : Output). o.1)) (a.distinct ∙ ap (map (output q)) (a.grouped ∙ passing of.stored_as of.table.tree tests params (λ r. p r.1) tested (overlay old.now.trees []) kept_in.numbered kept_in.are))
      ∙ rows_are (filter (λ (r : ℤ × X). p r.1) kept_in.numbered) ∙ ap (map row) (sym (filter-map p (λ (r : ℤ × X). r.1) kept_in.numbered)) in
      let these : IsPermutation (map row (filter p xs)) (map row (filter p all)) =
      IsPermutation-map row _ _ (IsPermutation-filter p _ _ (IsPermutation-sym _ _ kept_in.same)) in
      let those : IsPermutation (map row (filter p all)) (map (λ (o : Output). o.1) a.ordered) =
      subst (λ l. IsPermutation l (map (λ (o : Output). o.1) a.ordered)) kept (IsPermutation-map (λ (o : Output). o.1) _ _ a.same) in
      subst (λ l. IsPermutation l rows) (sym (map-map show f (filter p xs))) (subst (IsPermutation (map row (filter p xs))) (sym a.shown) (IsPermutation-trans _ _ _ these those))

-- rows that are read back
pub read_again : {Y : Type 0} (show : Y → Row) (read : Row → Y) → ((y : Y) → read (show y) ≡ y) → (ys : List Y) → map read (map show ys) ≡ ys
read_again show read back [] = refl
read_again show read back (y ∷ ys) = let first = back y in let rest = read_again show read back ys in λ i. first i ∷ rest i

pub same_read : {Y : Type 0} (show : Y → Row) (read : Row → Y) → ((y : Y) → read (show y) ≡ y) → (xs ys : List Y) → IsPermutation (map show xs) (map show ys) → IsPermutation xs ys
same_read show read back xs ys same =
    subst (λ l. IsPermutation l ys) (read_again show read back xs) (subst (IsPermutation (map read (map show xs))) (read_again show read back ys) (IsPermutation-map read _ _ same))

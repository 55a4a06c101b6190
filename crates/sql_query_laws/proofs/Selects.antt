-- A SELECT of one table of a desk, in the order of the table's key.
use Rattle.std.proofs.Common.{◌≡◌, ℕ, ℤ, Bool, true, List, [], ◌∷◌, map, filter, find, Option, None, Some, option_map, refl, sym, ap, ◌∙◌}
use Rattle.std.specs.List.{list_all}
use Rattle.sqlite_keyed.proofs.ListLemmas.{map-map, ascending_weaker}
use Rattle.sqlite_sql.specs.Term.{Term, holds, eval_all}
use Rattle.sqlite_value.specs.Order.{Row}
use Rattle.sql_statements.proofs.Selects.{selected}
use Rattle.sql_statements.specs.Statements.{IsSelect, query_from}
use Rattle.sql_statements.specs.StoredRows.{row_of}
use Rattle.sql_tables.specs.Schema.{desk_schema}
use Rattle.sql_query_laws.proofs.Found.{first_passing}
use Rattle.sql_query_laws.proofs.Listings.{Listing}
use Rattle.sql_query_laws.specs.Shows.{ShowsAll, ShowsFirst}

module _ {X : Type 0} (of : Listing X) {Y : Type 0} (sql : List ℕ) (tests shown : List Term) (params : Row) (p : X → Bool) (f : X → Y) (show : Y → Row)
    (is : IsSelect desk_schema sql (query_from of.table.tree tests shown of.order))
    (tested : (i : ℤ) (x : X) → list_all (holds (params ∷ row_of of.stored_as (i, x) ∷ [])) tests ≡ p x)
    (shows : (i : ℤ) (x : X) → eval_all shown (params ∷ row_of of.stored_as (i, x) ∷ []) ≡ show (f x)) where
  -- the records that pass
  pub all_selected : ShowsAll sql params show (λ t. map f (filter p (of.records t)))
  all_selected = record {
    rows = λ t old new h rows seen.
        let table = of.stored old.now.trees t h.1 in
        selected of.stored_as of.table.tree tests shown of.order params p (λ x. show (f x)) of.sort tested shows (of.sorts params) desk_schema sql is old new h.0 (of.records t) table.stored
        (ascending_weaker _ _ (λ x y less. of.compares x y ∙ less) (of.records t) table.rise) rows seen
        ∙ sym (map-map show f (filter p (of.records t)));
  }

  -- the first of the records that pass
  pub first_selected : ShowsFirst sql params show (λ t. option_map f (find p (of.records t)))
  first_selected = record {
    row = λ t old new h rows seen. first_passing show f p (of.records t) rows (all_selected.rows t old new h rows seen ∙ map-map show f (filter p (of.records t)));
  }

-- a whole record is shown
pub itself : {X : Type 0} (o : Option X) → option_map (λ x. x) o ≡ o
itself None = refl
itself (Some x) = refl

pub each_itself : {X : Type 0} (xs : List X) → map (λ x. x) xs ≡ xs
each_itself [] = refl
each_itself (x ∷ xs) = ap (λ l. x ∷ l) (each_itself xs)

-- WHERE is left out
pub all_pass : {X : Type 0} (xs : List X) → filter (λ _. true) xs ≡ xs
all_pass [] = refl
all_pass (x ∷ xs) = ap (λ l. x ∷ l) (all_pass xs)

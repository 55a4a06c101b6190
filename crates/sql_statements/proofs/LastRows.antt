-- ORDER BY the key DESC LIMIT 1 shows the last row.
use Rattle.std.proofs.Common.{◌≡◌, ℕ, ℤ, pos, Bool, List, [], ◌∷◌, ◌++◌, map, filter, take, Less, IsPermutation}
use Rattle.std.specs.List.{AllByRecursion, list_all}
use Rattle.std.proofs.lemmas.List.Sorted.{IsPermutation-refl, IsPermutation-trans, IsPermutation-sym, IsPermutation-cons, IsPermutation-to_front}
use Rattle.sqlite_value.specs.Order.{Row}
use Rattle.sqlite_value.specs.declared.keys.Key.{Key}
use Rattle.sqlite_trees.specs.Tree.{IsAscending}
use Rattle.sqlite_sql.specs.Term.{Term, holds, eval_all}
use Rattle.sqlite_sql.specs.Query.{key_cmp}
use Rattle.sqlite_schema.specs.declared.schema.Schema.{Schema}
use Rattle.sqlite_keyed.proofs.ListLemmas.{ascending-append, all-append}
use Rattle.sqlite.specs.State.{State, Shown}
use Rattle.sql_statements.specs.StoredRows.{Form, row_of, Stores}
use Rattle.sql_statements.specs.Statements.{query_within, IsSelect}
use Rattle.sql_statements.proofs.StoredRows.{stores_in}
use Rattle.sql_statements.proofs.Selects.{selected_within}

-- the list from its end
abbrev pub backwards : {X : Type 0} → List X → List X
backwards [] = []
backwards (x ∷ xs) = backwards xs ++ x ∷ []

pub moves_backwards : {X : Type 0} (xs : List X) → IsPermutation xs (backwards xs)
moves_backwards [] = IsPermutation-refl []
moves_backwards (x ∷ xs) = IsPermutation-trans _ _ _ (IsPermutation-cons x _ _ (moves_backwards xs)) (IsPermutation-sym _ _ (IsPermutation-to_front (backwards xs) x))

all_backwards : {X : Type 0} (P : X → Type 0) (xs : List X) → AllByRecursion P xs → AllByRecursion P (backwards xs)
all_backwards P [] all = tt
all_backwards P (x ∷ xs) all = all-append P (backwards xs) (x ∷ []) (all_backwards P xs all.1) (all.0, tt)

pub falls_backwards : {X : Type 0} (R : X → X → Type 0) (xs : List X) → IsAscending R xs → IsAscending (λ a b. R b a) (backwards xs)
falls_backwards R [] up = tt
falls_backwards {X} R (x ∷ xs) up = ascending-append (λ a b. R b a) (backwards xs) (x ∷ []) (falls_backwards R xs up.1) (tt, tt) (each (backwards xs) (all_backwards (R x) xs up.0))
  where
    each : (ys : List X) → AllByRecursion (R x) ys → AllByRecursion (λ y. AllByRecursion (λ b. R b y) (x ∷ [])) ys
    each [] all = tt
    each (y ∷ ys) all = ((all.0, tt), each ys all.1)

module _ {X : Type 0} (form : Form X) (tree : ℕ) (tests shown : List Term) (order : List (Term × Key)) (params : Row) (p : X → Bool) (show : X → Row) (sort : X → Row)
    (tested : (i : ℤ) (x : X) → list_all (holds (params ∷ row_of form (i, x) ∷ [])) tests ≡ p x)
    (shows : (i : ℤ) (x : X) → eval_all shown (params ∷ row_of form (i, x) ∷ []) ≡ show x)
    (sorts : (i : ℤ) (x : X) → eval_all (map (λ k. k.0) order) (params ∷ row_of form (i, x) ∷ []) ≡ sort x) where
  pub last_selected : (schema : Schema) (sql : List ℕ) → IsSelect schema sql (query_within (pos 1) tree tests shown order) → (old new : State) → old.now.schema ≡ schema → (xs : List X) → Stores form (old.now.trees tree) xs
      → IsAscending (λ a b. key_cmp 0 (map (λ k. k.1) order) (sort b) (sort a) ≡ Less) xs → (rows : List Row) → Shown sql params old new rows → rows ≡ map show (take 1 (filter p (backwards xs)))
  last_selected schema sql is old new has xs h falls =
      selected_within (pos 1) form tree tests shown order params p show sort tested shows sorts schema sql is old new has (backwards xs)
      (stores_in form _ xs (backwards xs) (moves_backwards xs) h) (falls_backwards _ xs falls)

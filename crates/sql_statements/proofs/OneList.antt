-- A table holds one list at most.
use Rattle.std.proofs.Common.{◌≡◌, ℤ, List, [], ◌∷◌, map, refl, sym, ap, ◌∙◌, subst, Ordering, Less, Equal, Greater, is_gt, IsPermutation}
use Rattle.std.specs.Cmp.{IsTotalOrder}
use Rattle.std.proofs.lemmas.List.Sorted.{IsPermutation-trans, IsPermutation-sym}
use Rattle.sqlite_value.specs.Order.{Row}
use Rattle.sqlite_trees.specs.Tree.{IsAscending}
use Rattle.sqlite_keyed.proofs.ListLemmas.{map-map, map_same, ascending_weaker, IsPermutation-same}
use Rattle.sqlite_keyed.proofs.SortLemmas.{sorted_unique}
use Rattle.sqlite_exec.proofs.PartitionLemmas.{sorted_from_ascending}
use Rattle.sql_statements.specs.StoredRows.{Form, row_of, Stores}

-- a value is read back of its row, with the rowid that it has
module _ {X : Type 0} (form : Form X) (decode : Row → X) (back : (p : ℤ × X) → decode (row_of form p) ≡ p.1) where
  values_are : (rows : List Row) (ps : List (ℤ × X)) → rows ≡ map (row_of form) ps → map decode rows ≡ map (λ p. p.1) ps
  values_are rows ps is = ap (map decode) is ∙ map-map decode (row_of form) ps ∙ map_same _ (λ p. p.1) back ps

  pub stores_once : (cmp : X → X → Ordering) → IsTotalOrder cmp → (rows : List Row) (xs ys : List X) → Stores form rows xs → Stores form rows ys
      → IsAscending (λ a b. cmp a b ≡ Less) xs → IsAscending (λ a b. cmp a b ≡ Less) ys → ys ≡ xs
  stores_once cmp total rows xs ys h k up rise =
      let both = sym (values_are rows h.numbered h.are) ∙ values_are rows k.numbered k.are in
      sorted_unique cmp total xs ys up
      (IsPermutation-trans _ _ _ (IsPermutation-sym _ _ h.same) (IsPermutation-trans _ _ _ (IsPermutation-same _ _ both) k.same))
      (sorted_from_ascending cmp total ys (ascending_weaker _ (λ a b. is_gt (cmp a b) ≡ Rattle.std.proofs.Common.false) (λ a b e. ap is_gt e) ys rise))

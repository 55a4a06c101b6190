-- A row that is put in under its number stands where the number belongs.
use Rattle.std.proofs.Common.{◌≡◌, ◌≤◌, ◌∙◌, ℕ, pos, Bool, true, ◌==◌, List, ◌∷◌, ◌++◌, filter, length, ap₂, arith, int_eq}
use Rattle.std.specs.Cmp.{IsTotalOrder}
use Rattle.std.specs.Ordering.{nat_cmp, on}
use Rattle.std.proofs.lemmas.Cmp.{on_total, nat_cmp_total}
use Rattle.std.proofs.lemmas.Int.{ints}
use Rattle.sqlite.specs.Table.{Table}
use Rattle.sqlite_keyed.specs.Lists.{insert_sorted}
use Rattle.sqlite_trees.specs.Tree.{Trees}
use Rattle.sqlite_value.specs.Order.{Row}
use Rattle.sql_statements.specs.StoredRows.{Form, keyed, Stores}
use Rattle.sql_statements.proofs.FreeKeys.{free_before, one_under}
use Rattle.sql_statements.proofs.StoredRows.{stores_in}
use Rattle.sql_tables.specs.KeyOrders.{IsInOrder}
use Rattle.sql_tables.specs.Tables.{IsTableOf}
use Rattle.sql_writes.proofs.Conditions.{number_itself, equal_numbers, same_number}
use Rattle.sql_writes.proofs.Keys.{put_in_order}
use Rattle.sql_writes.proofs.ManyKeys.{all_put, put_in_turn}

one_key : (a b n : ℕ) → (a == n) ≡ true → (b == n) ≡ true → int_eq (pos b) (pos a) ≡ true
one_key a b n here there = ap₂ (λ x y. int_eq (pos x) (pos y)) (same_number b n there) (same_number a n here) ∙ itself n
  where
    itself : (n : ℕ) → int_eq (pos n) (pos n) ≡ true
    itself n = grind (arith, ints)

-- the number is the rowid
module _ {X : Type 0} (no : X → ℕ) (others : X → Row) (table : Table) where
  abbrev stored_as : Form X
  stored_as = keyed (λ x. pos (no x)) others

  number_total : IsTotalOrder (on no nat_cmp)
  number_total = on_total no nat_cmp_total

  abbrev has_number_of : X → X → Bool
  has_number_of x y = no y == no x

  few_have : (rows : List Row) (xs : List X) → Stores stored_as rows xs → (x : X) → length (filter (has_number_of x) xs) ≤ 1
  few_have rows xs stored x = one_under (has_number_of x) (λ y. pos (no y)) others (λ y z here there. one_key (no y) (no z) (no x) here there) rows xs stored

  pub numbered_in_order : (new : Trees) (x : X) (xs : List X) → IsInOrder (on no nat_cmp) xs → Stores stored_as (new table.tree) (x ∷ xs) → IsTableOf new table stored_as (on no nat_cmp) (insert_sorted (on no nat_cmp) x xs)
  numbered_in_order new x xs rise stored =
      let free = free_before (has_number_of x) x xs (number_itself (no x)) (few_have (new table.tree) (x ∷ xs) stored x) in
      put_in_order stored_as (on no nat_cmp) number_total (has_number_of x) new table x xs (λ y. equal_numbers (no y) (no x)) free rise stored

  -- the same of many rows that one statement puts in
  pub all_in_order : (new : Trees) (ys xs : List X) → IsInOrder (on no nat_cmp) xs → Stores stored_as (new table.tree) (ys ++ xs) → IsTableOf new table stored_as (on no nat_cmp) (all_put (on no nat_cmp) ys xs)
  all_in_order new ys xs rise stored =
      let put = put_in_turn (on no nat_cmp) has_number_of number_total (λ x y. equal_numbers (no y) (no x)) (λ x. number_itself (no x)) ys xs (few_have (new table.tree) (ys ++ xs) stored) rise in
      record { stored = stores_in stored_as _ _ _ put.0 stored; rise = put.1 }

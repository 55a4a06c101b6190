-- What an INSERT that went through tells: no row had its key.
use Rattle.std.proofs.Common.{◌≡◌, ◌≤◌, ℤ, Bool, true, false, List, [], ◌∷◌, filter, length, refl, sym, ap, ◌∙◌, subst, arith, int_eq, true≢false, inl, inr}
use Rattle.std.proofs.lemmas.Int.{ints}
use Rattle.std.specs.List.{AllByRecursion, list_any}
use Rattle.std.proofs.lemmas.List.{length-map}
use Rattle.std.proofs.lemmas.List.Sorted.{length_permutation}
use Rattle.sqlite_value.specs.Order.{Row}
use Rattle.sqlite.specs.Table.{Table}
use Rattle.sqlite.specs.Schema.{Schema}
use Rattle.sqlite_trees.specs.Tree.{Trees}
use Rattle.sqlite_schema.specs.declared.schema.Constraint.TheVariants.{Unique}
use Rattle.sqlite_schema.specs.Rules.{passes as obeys}
use Rattle.sqlite_rules.specs.Lists.{Has}
use Rattle.sqlite_rules.proofs.ListLemmas.{all_has, all_from}
use Rattle.sqlite_keyed.specs.Keyed.{IsKeyedBy}
use Rattle.sqlite_keyed.proofs.KeyedLemmas.{int_eq_apart}
use Rattle.sqlite_keyed.proofs.ListLemmas.{filter_none, filter-map, IsPermutation-filter, any_from_none}
use Rattle.sql_statements.specs.StoredRows.{Form, keyed, rowid_of, row_of, Stores}
use Rattle.sql_statements.proofs.Upserts.{passes, has_image}

bool_not : (b : Bool) → (b ≡ true → ⊥) → b ≡ false
bool_not true h = absurd (h refl)
bool_not false h = refl

module _ {X : Type 0} (id : ℤ × X → ℤ) (p : X → Bool) where
  alone : (ps : List (ℤ × X)) → IsKeyedBy id ps → ((a b : ℤ × X) → Has ps a → Has ps b → p a.1 ≡ true → p b.1 ≡ true → int_eq (id b) (id a) ≡ false → ⊥) → length (filter (passes p) ps) ≤ 1
  alone [] up pair = omega arith
  alone (q ∷ qs) up pair = go (p q.1) refl (alone qs up.1 (λ a b x y. pair a b (inr x) (inr y)))
    where
      go : (t : Bool) → p q.1 ≡ t → length (filter (passes p) qs) ≤ 1 → length (filter (passes p) (q ∷ qs)) ≤ 1
      go true e more =
          let none = filter_none (passes p) qs (all_from (λ (z : ℤ × X). p z.1 ≡ false) qs (λ z has. bool_not (p z.1) (λ h.
          let above = all_has _ qs z up.0 has in pair q z (inl refl) (inr has) e h (int_eq_apart (id z) (id q) (λ same. omega (arith, ints, above, same)))))) in
          rw (e, none) (omega arith)
      go false e more = rw e more

module _ {X : Type 0} (p : X → Bool) where
  pub free_before : (x : X) (xs : List X) → p x ≡ true → length (filter p (x ∷ xs)) ≤ 1 → list_any p xs ≡ false
  free_before x xs here few = go (filter p xs) refl (rw here at few)
    where
      go : (l : List X) → filter p xs ≡ l → length (x ∷ filter p xs) ≤ 1 → list_any p xs ≡ false
      go [] e h = any_from_none p xs (all_from _ xs (λ y has. bool_not (p y) (λ yes_it. absurd (subst (λ l. Has l y) e (Rattle.sqlite_rules.proofs.ListLemmas.has_kept p xs y has yes_it)))))
      go (z ∷ l) e h = absurd (let k = rw e at h in omega (arith, k))

  module _ (form : Form X) where
    -- where two values that pass never have two rowids, one at most passes
    one_passes : (rows : List Row) (xs : List X) (stored : Stores form rows xs)
        → ((a b : ℤ × X) → Has stored.numbered a → Has stored.numbered b → p a.1 ≡ true → p b.1 ≡ true → int_eq (rowid_of form b) (rowid_of form a) ≡ false → ⊥) → length (filter p xs) ≤ 1
    one_passes rows xs stored apart =
        let few = alone (rowid_of form) p stored.numbered stored.rise apart in
        subst (λ n. n ≤ 1) (sym (length-map (filter (passes p) stored.numbered) (λ (r : ℤ × X). r.1)) ∙ sym (ap length (filter-map p (λ (r : ℤ × X). r.1) stored.numbered)) ∙ sym (length_permutation _ _ (IsPermutation-filter p _ _ stored.same))) few

  -- the values that have one rowid
  pub one_under : (key : X → ℤ) (others : X → Row) → ((x y : X) → p x ≡ true → p y ≡ true → int_eq (key y) (key x) ≡ true) → (rows : List Row) (xs : List X) → Stores (keyed key others) rows xs → length (filter p xs) ≤ 1
  one_under key others same rows xs stored = one_passes (keyed key others) rows xs stored (λ a b x y here also apart. true≢false (sym (same a.1 b.1 here also) ∙ apart))

  module _ (form : Form X) (schema : Schema) (table : Table)
      (clash : (db : Trees) (a b : ℤ × X) → Has (db table.tree) (row_of form b) → p a.1 ≡ true → p b.1 ≡ true → int_eq (rowid_of form b) (rowid_of form a) ≡ false → obeys Unique schema db table (row_of form a) ≡ false) where
    -- the values that have a key, where UNIQUE guards it
    pub one_kept : (db : Trees) (xs : List X) → Stores form (db table.tree) xs → AllByRecursion (λ row. obeys Unique schema db table row ≡ true) (db table.tree) → length (filter p xs) ≤ 1
    one_kept db xs stored rules =
        let there = λ (a : ℤ × X) (has : Has stored.numbered a). subst (λ l. Has l (row_of form a)) (sym stored.are) (has_image p (row_of form) stored.numbered a has) in
        one_passes form (db table.tree) xs stored (λ a b x y here also apart. true≢false (sym (all_has _ (db table.tree) (row_of form a) rules (there a x)) ∙ clash db a b (there b y) here also apart))

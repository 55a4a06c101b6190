-- The count of a statement of one row tells that the row of its key is there, and passes its WHERE.
use Rattle.std.proofs.Common.{◌≡◌, ◌≤◌, Bool, true, false, List, [], ◌∷◌, filter, length, slice_get, inl, refl, sym, ap, ◌∙◌, subst, arith}
use Rattle.std.specs.List.{AllByRecursion}
use Rattle.sqlite_trees.specs.Tree.{IsAscending}
use Rattle.sqlite_rules.specs.Lists.{Has}
use Rattle.sqlite_rules.proofs.ListLemmas.{has_filtered}
use Rattle.sqlite_keyed.specs.Lists.{update_where}
use Rattle.sqlite_keyed.proofs.ListLemmas.{filter_none, all_weaker, slice_get-filter}
use Rattle.sql_statements.specs.OneRow.{OneFound}

bool_not : (b : Bool) → (b ≡ true → ⊥) → b ≡ false
bool_not true h = absurd (h refl)
bool_not false h = refl

module _ {X : Type 0} where
  -- a test of the key passes at one row at most, where the list has the order of the key
  pub one_of : (R : X → X → Type 0) (q : X → Bool) → ((a b : X) → q a ≡ true → q b ≡ true → R a b → ⊥) → (xs : List X) → IsAscending R xs → length (filter q xs) ≤ 1
  one_of R q apart [] up = omega arith
  one_of R q apart (x ∷ xs) up = go (q x) refl (one_of R q apart xs up.1)
    where
      go : (b : Bool) → q x ≡ b → length (filter q xs) ≤ 1 → length (filter q (x ∷ xs)) ≤ 1
      go true e more = rw (e, filter_none q xs (all_weaker (R x) (λ y. q y ≡ false) (λ y r. bool_not (q y) (λ h. apart x y e h r)) xs up.0)) (omega arith)
      go false e more = rw e more

  module _ (p q : X → Bool) (within : (x : X) → p x ≡ true → q x ≡ true) where
    pub no_more : (xs : List X) → length (filter p xs) ≤ length (filter q xs)
    no_more [] = omega arith
    no_more (x ∷ xs) = go (p x) (q x) refl refl (no_more xs)
      where
        go : (b c : Bool) → p x ≡ b → q x ≡ c → length (filter p xs) ≤ length (filter q xs) → length (filter p (x ∷ xs)) ≤ length (filter q (x ∷ xs))
        go true true e f more = rw (e, f) (omega (arith, more))
        go true false e f more = absurd (let h = within x e in cc)
        go false true e f more = rw (e, f) (omega (arith, more))
        go false false e f more = rw (e, f) more

    -- a narrower test that passes as often is the same
    pub tests_agree : (xs : List X) → length (filter q xs) ≤ length (filter p xs) → AllByRecursion (λ x. p x ≡ q x) xs
    tests_agree [] few = tt
    tests_agree (x ∷ xs) few = go (p x) (q x) refl refl (tests_agree xs)
      where
        go : (b c : Bool) → p x ≡ b → q x ≡ c → (length (filter q xs) ≤ length (filter p xs) → AllByRecursion (λ x. p x ≡ q x) xs) → AllByRecursion (λ x. p x ≡ q x) (x ∷ xs)
        go true true e f more = (e ∙ sym f, more (let h = rw (e, f) at few in omega (arith, h)))
        go true false e f more = absurd (let h = within x e in cc)
        go false true e f more = absurd (let h = rw (e, f) at few in omega (arith, h, no_more xs))
        go false false e f more = (e ∙ sym f, more (rw (e, f) at few))

  -- so an UPDATE of one row changes the row of the key
  pub updates_agree : (p q : X → Bool) (f : X → X) (xs : List X) → AllByRecursion (λ x. p x ≡ q x) xs → update_where p f xs ≡ update_where q f xs
  updates_agree p q f [] same = refl
  updates_agree p q f (x ∷ xs) same = rw (same.0, updates_agree p q f xs same.1) refl

  filters_agree : (p q : X → Bool) (xs : List X) → AllByRecursion (λ x. p x ≡ q x) xs → filter p xs ≡ filter q xs
  filters_agree p q [] same = refl
  filters_agree p q (x ∷ xs) same = rw (same.0, filters_agree p q xs same.1) refl

  pub one_found : (p q : X → Bool) → ((x : X) → p x ≡ true → q x ≡ true) → (xs : List X) → length (filter q xs) ≤ 1 → length (filter p xs) ≡ 1 → OneFound p q xs
  one_found p q within xs few one = first (filter p xs) refl
    where
      same : AllByRecursion (λ x. p x ≡ q x) xs
      same = tests_agree p q within xs (omega (arith, few, one))

      first : (l : List X) → filter p xs ≡ l → OneFound p q xs
      first [] e = absurd (let h = ap length (sym e) ∙ one in omega (arith, h))
      first (x ∷ l) e = record {
        same = same;
        row = x;
        found = sym (slice_get-filter q xs) ∙ ap (λ k. slice_get k 0) (sym (filters_agree p q xs same) ∙ e);
        passes = (has_filtered p xs x (subst (λ k. Has k x) (sym e) (inl refl))).1;
      }
